-- Document 01: "A table is **sound** when .. counts agree with section 1 and the maxima, names are good, not reserved and unique in their
-- families, numbers in each sort (places in each class) rise from 0, each class is followed by at least one permission and its
-- permissions differ". What section 1 declares where that holds of it, and what its check answers. Assumes nothing.
use Rattle.std.specs.Prelude.{List, [], ℕ, length, Option, Some, None}
use Rattle.std.proofs.Math.Option as maybe
use Rattle.bitset.specs.Sets.{tabulate}
use Rattle.policy.specs.Basics.{◌>>=◌, given}
use Rattle.policy.specs.Statements.{users, roles, types, thing_of, attribute_of, Declaration, count, class_names, permissions}
use Rattle.policy.specs.Maxima.{max_classes}
use Rattle.policy.specs.Sound.{names_at, good_from}
use Rattle.policy.specs.declared.NameCounts.{NameCounts}

-- what the bytes of section 1 declare; none where they are not sound
unfoldable pub sound_names : List ℕ → maybe.Option (List Declaration)
sound_names body = names_at body >>= λ ds. given (good_from [] ds) ds

-- how many things of each sort, and how many classes
abbrev pub counts_of : List Declaration → NameCounts
counts_of ds = record {
  users = count (thing_of users) ds;
  roles = count (thing_of roles) ds;
  types = count (thing_of types) ds;
  user_attributes = count (attribute_of users) ds;
  role_attributes = count (attribute_of roles) ds;
  type_attributes = count (attribute_of types) ds;
  classes = length (class_names ds);
}

abbrev pub counted_of : maybe.Option (List Declaration) → Option NameCounts
counted_of maybe.none = None
counted_of (maybe.some ds) = Some (counts_of ds)

-- at c how many permissions class c has; 0 where there is no class c
abbrev pub permission_counts : List Declaration → List ℕ
permission_counts ds = tabulate max_classes (λ c. length (permissions ds c))

-- the lent numbers afterwards, by those before: an unsound section leaves them
abbrev pub permissions_after : maybe.Option (List Declaration) → List ℕ → List ℕ
permissions_after maybe.none before = before
permissions_after (maybe.some ds) before = permission_counts ds
