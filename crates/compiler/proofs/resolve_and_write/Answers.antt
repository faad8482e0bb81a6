-- `compiler::resolve_and_write` meets its contract: 8, 9, or what is fitted. Assumes nothing.
use Rattle.std.proofs.lemmas.Result.{err_from_is_err_and}
use Rattle.compiler.proofs.OutcomeLaws.{refused-later, passes}
use Rattle.compiler.proofs.resolve_and_write.Goals as goal

pub returns-in_err-resolve : goal.returns-in_err-resolve
returns-in_err-resolve c =
    let p = err_from_is_err_and c.from_residual.result c.from_residual.ensures.1 in
    rw (p.1, p.2)
    (record { says = λ p ok code sizes ts copied. refused-later (c.in_err-resolve.ensures.resolves p ok code sizes.users sizes.roles ts) })

pub returns : goal.returns
returns c =
    record {
      says = λ p ok code sizes ts copied.
          let resolves = c.in_ok-resolve.ensures.resolves p ok code sizes.users sizes.roles ts in
          passes resolves
          (c.write_fitting.ensures.says p
          (record { accepted = ok; code = code; user-sets = resolves.user-sets; role-sets = resolves.role-sets; type-sets = resolves.type-sets }) sizes copied);
    }
