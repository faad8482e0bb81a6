-- `declarations::declare_class` meets its contract: its permissions first, then the full name of the class, which outside of blocks is its own. Assumes nothing.
use mathlib.Core.Path.{sym, ◌∙◌}
use Rattle.declarations.proofs.FullNames.{whole_is, full_is, full-too-long}
use Rattle.declarations.proofs.ClassAnswers.{no-class, class-repeats, class-too-long, class-named}
use Rattle.declarations.proofs.declare_class.Goals as goal

pub returns-in_default : goal.returns-in_default
returns-in_default c = record { declares = no-class _ _ _ _ _ _ c.in_default.ensures; refuses = tt }

pub returns-then-repeats : goal.returns-then-repeats
returns-then-repeats c = record {
  declares = class-repeats _ _ _ _ _ _ _ c.in-Some.ensures c.inside-row.ensures (sym c.repeats.ensures ∙ c.if-repeats.true);
  refuses = tt;
}

pub returns-then-not-in_block : goal.returns-then-not-in_block
returns-then-not-in_block c = record {
  declares =
      class-named _ _ _ _ _ _ _ c.in-Some.ensures c.inside-row.ensures
      (sym c.repeats.ensures ∙ c.if-repeats.false)
      (whole_is c.in_block.ensures c.if-not-in_block.true-raw c.part.ensures) c.add_class.ensures.declares;
  refuses = c.add_class.ensures.refuses;
}

pub returns-in_default-named : goal.returns-in_default-named
returns-in_default-named c = record {
  declares =
      class-too-long _ _ _ _ _ _ _ c.in-Some.ensures c.inside-row.ensures
      (sym c.repeats.ensures ∙ c.if-repeats.false) (full-too-long c.full_name-named.ensures c.in_default-named.is);
  refuses = tt;
}

pub returns : goal.returns
returns c = record {
  declares =
      class-named _ _ _ _ _ _ _ c.in-Some.ensures c.inside-row.ensures
      (sym c.repeats.ensures ∙ c.if-repeats.false) (full_is c.full_name-named.ensures c.in-Some-named.is c.part-2.ensures)
      c.add_class-2.ensures.declares;
  refuses = c.add_class-2.ensures.refuses;
}
