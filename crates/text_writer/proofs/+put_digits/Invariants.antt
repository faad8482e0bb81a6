-- `text_writer::put_digits` meets its contract. It calls itself with one digit less. Assumes nothing.
use Rattle.text_writer.proofs.+put_digits.Given as goal

abbrev pub decreases-put_digits : goal.decreases-put_digits
decreases-put_digits l = l.most
