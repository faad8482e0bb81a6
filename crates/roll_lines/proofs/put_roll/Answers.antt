-- `roll_lines::put_roll` meets its contract: the first line, users, then roles. Assumes nothing.
use Prim.Native.Nat.{◌<◌}
use native.Mathlib.Omega.{arith}
use Rattle.table_laws.proofs.ListLaws.{all-places}
use Rattle.roll_lines.proofs.Rolls.{acceptance-short, roll-put}
use Rattle.roll_lines.proofs.put_roll.Goals as goal

pub put_lines-roles-requires : goal.put_lines-roles-requires
put_lines-roles-requires c =
    record {
      sound = c.requires.0;
      short = c.requires.1;
      thing = omega arith;
      kind-short = omega arith;
      of-short = omega arith;
      room = omega (arith, c.requires.2, acceptance-short c.args.bytes, c.put_acceptance-users.ensures.ends);
    }

pub put_lines-requires : goal.put_lines-requires
put_lines-requires c =
    record {
      sound = c.requires.0;
      short = c.requires.1;
      thing = omega arith;
      kind-short = omega arith;
      of-short = omega arith;
      room =
          omega (
            arith,
            c.requires.2,
            acceptance-short c.args.bytes,
            c.put_acceptance-users.ensures.ends,
            c.put_lines-roles.ensures.near,
            c.put_lines-roles.ensures.same,
          );
    }

pub returns : goal.returns
returns c =
    roll-put (all-places (λ k. k < 256) c.args.table.now 0 (λ i l. (c.shared_slice_known-1.given i).fits)) c.requires.2
    c.put_acceptance-users.ensures c.put_lines-roles.ensures c.put_lines.ensures
