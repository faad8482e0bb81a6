-- `statement_reader::statement` meets its contract, by the function of the statement's keyword. Assumes nothing.
use mathlib.Core.Path.{ap, ◌∙◌}
use Rattle.std.specs.Prelude.{Some}
use Rattle.items.proofs.Items.{sees}
use Rattle.grammar.specs.Shapes.{keyword_in}
use Rattle.statement_reader.proofs.ByKeyword.{no_word, no-keyword, by-keyword}
use borrow.Enum.Refused.{opened}
use Rattle.statement_reader.proofs.statement.Goals as goal

pub returns-in_default : goal.returns-in_default
returns-in_default c = λ at e. no_word _ e (opened c.in_default.in_default-own.keys2)

pub returns-in-Thing : goal.returns-in-Thing
returns-in-Thing c =
    let is = c.in-Thing.is in
    λ at e. by-keyword (sees e c.in-Word.is) _ (c.keyword_of.ensures ∙ ap keyword_in (c.in-Some.is ∙ ap Some is)) (c.declare_thing.ensures _ _ _ _)

pub returns-in-Attribute : goal.returns-in-Attribute
returns-in-Attribute c =
    let is = c.in-Attribute.is in
    λ at e. by-keyword (sees e c.in-Word.is) _ (c.keyword_of.ensures ∙ ap keyword_in (c.in-Some.is ∙ ap Some is)) (c.declare_attribute.ensures _ _)

pub returns-in-Class : goal.returns-in-Class
returns-in-Class c =
    let is = c.in-Class.is in
    λ at e. by-keyword (sees e c.in-Word.is) _ (c.keyword_of.ensures ∙ ap keyword_in (c.in-Some.is ∙ ap Some is)) (c.declare_class.ensures _ _ _ _)

pub returns-in-Set : goal.returns-in-Set
returns-in-Set c =
    let is = c.in-Set.is in
    λ at e. by-keyword (sees e c.in-Word.is) _ (c.keyword_of.ensures ∙ ap keyword_in (c.in-Some.is ∙ ap Some is)) (c.coded.ensures _ _)

pub returns-in-Relation : goal.returns-in-Relation
returns-in-Relation c =
    let is = c.in-Relation.is in
    λ at e. by-keyword (sees e c.in-Word.is) _ (c.keyword_of.ensures ∙ ap keyword_in (c.in-Some.is ∙ ap Some is)) (c.coded-in-Relation.ensures _ _)

pub returns-in-Transition : goal.returns-in-Transition
returns-in-Transition c =
    let is = c.in-Transition.is in
    λ at e. by-keyword (sees e c.in-Word.is) _ (c.keyword_of.ensures ∙ ap keyword_in (c.in-Some.is ∙ ap Some is)) (c.coded-in-Transition.ensures _ _)

pub returns-in-Constrain : goal.returns-in-Constrain
returns-in-Constrain c =
    let is = c.in-Constrain.is in
    λ at e. by-keyword (sees e c.in-Word.is) _ (c.keyword_of.ensures ∙ ap keyword_in (c.in-Some.is ∙ ap Some is)) (c.constrain.ensures _ _)

pub returns-in-Relabel : goal.returns-in-Relabel
returns-in-Relabel c =
    let is = c.in-Relabel.is in
    λ at e. by-keyword (sees e c.in-Word.is) _ (c.keyword_of.ensures ∙ ap keyword_in (c.in-Some.is ∙ ap Some is)) (c.validatetrans.ensures _ _)

pub returns-in_default-keyword_of : goal.returns-in_default-keyword_of
returns-in_default-keyword_of c =
    λ at e. no-keyword (sees e c.in-Word.is) (c.keyword_of.ensures ∙ ap keyword_in c.in_default-keyword_of.is)
