-- What declaring a name or a class promises: faults 4 and 6, or the entries of the declaration at the end of the symbols. Assumes nothing.
use Rattle.std.specs.Prelude.{ℕ, ◌+◌, ◌≤◌, ◌≡◌, true, false, ◌&&◌, List, [], ◌∷◌, ◌++◌, length, take, Err, Ok, Result}
use Rattle.std.proofs.Math.Option.{some}
use Rattle.byte_slices.specs.Parts.{put}
use Rattle.bitset.specs.Relations.{joined}
use Rattle.lexer.specs.Forms.{names_good, frames_at}
use Rattle.policy.specs.declared.Fault.{Fault}
use Rattle.policy.specs.Basics.{Name, differ, each}
use Rattle.policy.specs.Statements.{Sort, Declaration, plain, class, declare}
use Rattle.policy.specs.Words.{Keyword, declare_k}
use Rattle.policy.specs.Grammar.{formed}
use Rattle.policy.specs.Reading.{is_new, has_room, is_short, full_declaration}
use Rattle.policy.specs.Encode.{sort_code, entry_bytes, entries_of, entries}
use Rattle.policy.specs.Sound.{is_good, good_names, good_from}
use Rattle.policy.specs.Accepted.{GoodPath}
use Rattle.name_chains.specs.Chains.{Chained}
use Rattle.scopes.specs.Scope.{InScope}
use Rattle.symbols.specs.Section.{name_bytes}

-- body 1 of the declarations: "Names in text order, permissions directly after their class"
unfoldable pub section_of : List Declaration → List ℕ
section_of ds = joined (each entry_bytes (entries ds))

-- the memory begins with the symbols of ds, which end at a place, and has their chains
pub record Holds (table : List ℕ) (end : ℕ) (ds : List Declaration) : Type 0 where
  pub front : take end table ≡ section_of ds
  pub inside : end ≤ length table
  pub good : good_from [] ds ≡ true
  pub chained : Chained table end (entries ds)

-- the entries of d are written after those of ds, nothing else is changed before the chains, and the chains have them: neither fault 4 nor fault 6
pub record Adds (before after : List ℕ) (end past : ℕ) (ds : List Declaration) (d : Declaration) : Type 0 where
  pub new : is_new ds d ≡ true
  pub room : has_room ds d && is_short d ≡ true
  pub written : take name_bytes after ≡ put (take name_bytes before) end (joined (each entry_bytes (entries_of ds d)))
  pub long : length after ≡ length before
  pub moved : past ≡ end + length (joined (each entry_bytes (entries_of ds d)))
  pub fits : past ≤ name_bytes
  pub chained : Chained after past (entries (ds ++ (d ∷ [])))
  pub scope : (path : List Name) → InScope before path → InScope after path

-- "name declared again in its family, or permission twice in a class" before "one of the other maxima passed". A declaration that is refused leaves
-- the memory as it was, and no other fault refuses it
abbrev pub Declares : List ℕ → List ℕ → ℕ → List Declaration → Declaration → Result ℕ Fault → Type 0
Declares before after end ds d (Ok past) = Adds before after end past ds d
Declares before after end ds d (Err Fault.DeclaredAgain) = (is_new ds d ≡ false) × (after ≡ before)
Declares before after end ds d (Err Fault.MaximumPassed) = (is_new ds d ≡ true) × (has_room ds d && is_short d ≡ false) × (after ≡ before)
Declares before after end ds d (Err f) = ⊥

-- the faults of a declaration, 4 and 6: no other is answered, whatever the row and the memory hold
abbrev pub IsRefusal : Fault → Type 0
IsRefusal Fault.DeclaredAgain = Unit {0}
IsRefusal Fault.MaximumPassed = Unit {0}
IsRefusal f = ⊥

-- the declaration after the keyword k at a place of the text, under its full name in the blocks of a path
pub record DeclaresAt (t : List ℕ) (at : ℕ) (k : Keyword) (before after : List ℕ) (end : ℕ) (r : Result ℕ Fault) : Type 0 where
  pub says : (ds : List Declaration) (path : List Name) (d : Declaration) → Holds before end ds → InScope before path → GoodPath path
      → names_good (frames_at t at).here ≡ true → formed k (frames_at t at).here ≡ some (declare d) → Declares before after end ds (full_declaration path d) r

-- the same where the keyword is that of a sort, by the number of the sort: "0 user, 1 role, 2 type, 3 to 5 their attributes"
pub record DeclaresName (t : List ℕ) (at sort : ℕ) (before after : List ℕ) (end : ℕ) (r : Result ℕ Fault) : Type 0 where
  pub of : (s : Sort) → sort ≡ sort_code s → DeclaresAt t at (declare_k s) before after end r

-- a thing or an attribute of the full name w, where that is good
pub record DeclaresPlain (sort : ℕ) (w : Name) (before after : List ℕ) (end : ℕ) (r : Result ℕ Fault) : Type 0 where
  pub says : (ds : List Declaration) (s : Sort) → sort ≡ sort_code s → Holds before end ds → is_good w ≡ true → Declares before after end ds (plain s w) r

-- a class of the full name w and the permissions ps, where none of them occurs twice and the names are good
pub record DeclaresClass (w : Name) (ps : List Name) (before after : List ℕ) (end : ℕ) (r : Result ℕ Fault) : Type 0 where
  pub says : (ds : List Declaration) → Holds before end ds → differ ps ≡ true → good_names (class w ps) ≡ true → Declares before after end ds (class w ps) r
