-- To unfold this is to compute whether the word of a number is a keyword, and which. Assumes nothing.
use Rattle.policy.specs.Basics.{same, lookup}
use Rattle.policy.specs.Words.{reserved, keyword_of}
use Rattle.words.specs.Numbers.{keywords, words, word_of}

unfoldable pub computing : Unit {0}
unfolding same lookup reserved keywords words word_of keyword_of
computing = tt
