-- What `good_from` says of the first declaration, and of those after it; and of one declaration more. Assumes nothing.
use mathlib.Core.Path.{◌≡◌, sym, subst}
use mathlib.Core.Bool.{true, ◌&&◌}
use mathlib.Core.List.{List, [], ◌∷◌, ◌++◌, append-nil, append_assoc}
use Rattle.policy.specs.Statements.{Declaration}
use Rattle.policy.specs.Reading.{is_new, has_room}
use Rattle.policy.specs.Sound.{good_names, good_from}
use Rattle.policy.proofs.Lists.{both_true}

pub record GoodFirst (e : List Declaration) (d : Declaration) : Type 0 where
  pub names : good_names d ≡ true
  pub new : is_new e d ≡ true
  pub room : has_room e d ≡ true

module _ (e : List Declaration) (d : Declaration) (ds : List Declaration) (h : good_from e (d ∷ ds) ≡ true) where
  pub good-rest : good_from (e ++ (d ∷ [])) ds ≡ true
  unfolding good_from
  good-rest = (both_true (good_names d && is_new e d && has_room e d) (good_from (e ++ (d ∷ [])) ds) h).1

  pub good-first : GoodFirst e d
  unfolding good_from
  good-first =
      let first = (both_true (good_names d && is_new e d && has_room e d) (good_from (e ++ (d ∷ [])) ds) h).0 in
      let both = both_true (good_names d && is_new e d) (has_room e d) first in
      let one = both_true (good_names d) (is_new e d) both.0 in
      record { names = one.0; new = one.1; room = both.1 }

-- one declaration more
good-from-more : (e ds : List Declaration) (d : Declaration) → good_from e ds ≡ true → GoodFirst (e ++ ds) d → good_from e (ds ++ (d ∷ [])) ≡ true
unfolding good_from
good-from-more e [] d h g =
    let f : GoodFirst e d = subst (λ (x : List Declaration). GoodFirst x d) (append-nil e) g in
    rw (f.names, f.new, f.room)
good-from-more e (x ∷ ds) d h g =
    let f = good-first e x ds h in
    rw (f.names, f.new, f.room)
    (good-from-more (e ++ (x ∷ [])) ds d (good-rest e x ds h) (subst (λ (y : List Declaration). GoodFirst y d) (sym (append_assoc e (x ∷ []) ds)) g))

pub good_more : (ds : List Declaration) (d : Declaration) → good_from [] ds ≡ true → GoodFirst ds d → good_from [] (ds ++ (d ∷ [])) ≡ true
good_more ds d h g = good-from-more [] ds d h g
