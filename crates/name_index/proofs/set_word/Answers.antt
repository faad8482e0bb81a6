-- `name_index::set_word` meets its contract: the number's bytes are put at the word's place. Assumes nothing.
use Rattle.name_index.specs.Index.{put_word}
use Rattle.name_index.proofs.set_word.Goals as goal

pub returns : goal.returns
unfolding put_word
returns c = c.put8.ensures
