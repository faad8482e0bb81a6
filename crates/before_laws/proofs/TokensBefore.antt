-- The tokens of bytes without a dot are document 01's: a word goes on with the same bytes. Assumes nothing.
use Prim.Native.Nat.{ℕ, ◌+◌}
use mathlib.Core.Path.{◌≡◌, refl, ap, ◌∙◌}
use mathlib.Core.Bool.{true, false}
use mathlib.Core.List.{List, [], ◌∷◌, ◌++◌}
use Rattle.lexer.specs.Class.{class_of, is_dot}
use Rattle.lexer.specs.Scan.{Mode, between, in_comment, in_name}
use Rattle.lexer.specs.Token.{mode_then, ending, tokens_from, tokens_at, tokens}
use Rattle.lexer.specs.Forms.{build, frames_at, forms_of}
use Rattle.lexer.specs.declared.ByteClass.{ByteClass}
use Rattle.lexer.specs.declared.Token.{Token}
use Rattle.lexer.proofs.Names.{part-in-word}
use Rattle.policy.specs.Words.{dotless}
use Rattle.before_laws.specs.Before as before
use Rattle.before_laws.specs.Before.{class_before, tokens_before, forms_before}
use Rattle.policy.proofs.Dotless.{first-and-rest}
use Rattle.before_laws.proofs.ScanBefore.{class-as-before}

-- a byte ends the same tokens, and leads to the same mode
ending-as-before : (mode : Mode) (at : ℕ) (k : ByteClass) → is_dot k ≡ false → ending mode at k ≡ before.ending mode at (class_before k)
ending-as-before between at k e = rw (class-as-before k e)
ending-as-before in_comment at k e = refl
ending-as-before (in_name first len) at k e = rw (class-as-before k e, part-in-word k e)

mode-as-before : (mode : Mode) (at : ℕ) (k : ByteClass) → is_dot k ≡ false → mode_then mode at k ≡ before.mode_then mode at (class_before k)
mode-as-before between at k e = rw (class-as-before k e)
mode-as-before in_comment at k e = rw (class-as-before k e)
mode-as-before (in_name first len) at k e = rw (class-as-before k e, part-in-word k e)

from-as-before : (bs : List ℕ) (mode : Mode) (at : ℕ) → dotless bs ≡ true → tokens_from bs mode at ≡ before.tokens_from bs mode at
unfolding tokens_from before.tokens_from
from-as-before [] mode at e = refl
from-as-before (b ∷ bs) mode at e =
    let p = first-and-rest b bs e in
    let k = class_of b in
    let m = before.mode_then mode at (class_before k) in
    ap (λ (ts : List Token). ts ++ tokens_from bs (mode_then mode at k) (at + 1)) (ending-as-before mode at k p.0)
    ∙ ap (λ (n : Mode). before.ending mode at (class_before k) ++ tokens_from bs n (at + 1)) (mode-as-before mode at k p.0)
    ∙ ap (λ (ts : List Token). before.ending mode at (class_before k) ++ ts) (from-as-before bs m (at + 1) p.1)

pub tokens-as-before : (t : List ℕ) → dotless t ≡ true → tokens t ≡ tokens_before t
unfolding tokens tokens_at tokens_before
tokens-as-before t e = from-as-before t between 0 e

-- so the parts of the text are the same
pub forms-as-before : (t : List ℕ) → dotless t ≡ true → forms_of t ≡ forms_before t
unfolding forms_of frames_at tokens forms_before
forms-as-before t e = ap (λ (ks : List Token). (build t ks).here) (tokens-as-before t e)
