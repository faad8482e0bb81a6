-- `lexer::class_of` meets its contract: the mark of the byte's class names the class. Assumes nothing.
use Rattle.lexer.proofs.Marks.{marked, unmarked}
use Rattle.lexer.proofs.class_of.Goals as goal

pub returns-in-98 : goal.returns-in-98
returns-in-98 c = marked _ _ _ c.mark.ensures c.in-98.is

pub returns-in-110 : goal.returns-in-110
returns-in-110 c = marked _ _ _ c.mark.ensures c.in-110.is

pub returns-in-115 : goal.returns-in-115
returns-in-115 c = marked _ _ _ c.mark.ensures c.in-115.is

pub returns-in-111 : goal.returns-in-111
returns-in-111 c = marked _ _ _ c.mark.ensures c.in-111.is

pub returns-in-99 : goal.returns-in-99
returns-in-99 c = marked _ _ _ c.mark.ensures c.in-99.is

pub returns-in-76 : goal.returns-in-76
returns-in-76 c = marked _ _ _ c.mark.ensures c.in-76.is

pub returns-in-68 : goal.returns-in-68
returns-in-68 c = marked _ _ _ c.mark.ensures c.in-68.is

pub returns-in-80 : goal.returns-in-80
returns-in-80 c = marked _ _ _ c.mark.ensures c.in-80.is

pub returns-in_default : goal.returns-in_default
returns-in_default c =
    let r = c.in_default.in_default-own.rest in
    unmarked _ _ c.mark.ensures r.0.0.0.0.0.0.0.1 r.0.0.0.0.0.0.1 r.0.0.0.0.0.1 r.0.0.0.0.1
    r.0.0.0.1 r.0.0.1 r.0.1 r.1
