-- `declarations::declare` meets its contract: the full name of the next word is declared, which outside of blocks is the word itself. Assumes nothing.
use Rattle.declarations.proofs.FullNames.{whole_is, full_is, full-too-long}
use Rattle.declarations.proofs.NameAnswers.{no-sort, no_name, name-too-long, name-named}
use Rattle.declarations.proofs.declare.Goals as goal

pub returns-then-sort-ge-CLASS : goal.returns-then-sort-ge-CLASS
returns-then-sort-ge-CLASS c = record { declares = no-sort _ _ _ _ _ _ _ c.if-sort-ge-CLASS.true; refuses = tt }

pub returns-in_default : goal.returns-in_default
returns-in_default c = record { declares = no_name _ _ _ _ _ _ _ c.in_default.ensures; refuses = tt }

pub returns-then-not-in_block : goal.returns-then-not-in_block
returns-then-not-in_block c = record {
  declares =
      name-named _ _ _ _ _ _ _ c.in-Some.ensures
      (whole_is c.in_block.ensures c.if-not-in_block.true-raw c.part.ensures) c.add_name.ensures.declares;
  refuses = c.add_name.ensures.refuses;
}

pub returns-in_default-named : goal.returns-in_default-named
returns-in_default-named c = record {
  declares = name-too-long _ _ _ _ _ _ _ c.in-Some.ensures (full-too-long c.full_name-named.ensures c.in_default-named.is);
  refuses = tt;
}

pub returns : goal.returns
returns c = record {
  declares =
      name-named _ _ _ _ _ _ _ c.in-Some.ensures
      (full_is c.full_name-named.ensures c.in-Some-named.is c.part-2.ensures) c.add_name-2.ensures.declares;
  refuses = c.add_name-2.ensures.refuses;
}
