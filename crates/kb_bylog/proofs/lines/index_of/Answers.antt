use Rattle.std.proofs.Common.{◌≡◌, ◌∙◌, ◌^◌, List, sym, subst}
use Rattle.kb_word.specs.WordOrders.{Below}
use Rattle.kb_word.specs.Rewriting.{AreDecreasing}
use Rattle.kb_word.specs.Presentations.{parts_of}
use Rattle.kb_word.specs.declared.word_order.WordOrder.{WordOrder}
use Rattle.kb_machine.specs.Lines.{rules_of}
use Rattle.kb_machine.specs.declared.line.Line.{Line}
use Rattle.kb_bylog.specs.LogLines.{lines_of}
use Rattle.kb_bylog.proofs.LineLemmas.{few_lines, if_ok, lines_decrease}
use Rattle.kb_bylog.proofs.lines.index_of.Goals as goal

pub line_rules-requires : goal.line_rules-requires
line_rules-requires c =
    let decreasing = lines_decrease (parts_of c.args.presentation.now) c.args.log.now c.requires.justified in
    let Along : WordOrder → Type 0 = λ order. AreDecreasing (Below order) (lines_of c.args.log.now) in
    let OfLines : List Line → Type 0 = λ lines. AreDecreasing (Below c.in_ok-order.order) (rules_of lines) in
    subst OfLines (sym c.as_slice.ensures.value) (subst Along (sym c.in_ok-order.ensures) decreasing)

pub returns-clause-rules : goal.returns-clause-rules
returns-clause-rules c =
    let OfLines : List Line → Type 0 = λ lines. c.in_ok-rules.rules.rules ≡ rules_of lines in
    let rules : OfLines c.args.log.now.lines.items = subst OfLines c.as_slice.ensures.value c.in_ok-rules.ensures in
    if_ok c.of.result c.of.ensures.rules (λ index is. is ∙ rules)

pub returns-clause-few : goal.returns-clause-few
returns-clause-few c =
    let OfLines : List Line → Type 0 = λ lines. c.in_ok-rules.rules.rules ≡ rules_of lines in
    let rules : OfLines c.args.log.now.lines.items = subst OfLines c.as_slice.ensures.value c.in_ok-rules.ensures in
    if_ok c.of.result c.of.ensures.rules (λ index is. few_lines c.args.log.now.lines.items index.rules (2 ^ 31) (is ∙ rules) c.requires.few)
