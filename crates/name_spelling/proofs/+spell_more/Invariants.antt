-- `name_spelling::spell_more` meets its contract. It calls itself with one part less. Assumes nothing.
use Rattle.name_spelling.proofs.+spell_more.Given as goal

abbrev pub decreases-spell_more : goal.decreases-spell_more
decreases-spell_more l = l.left
