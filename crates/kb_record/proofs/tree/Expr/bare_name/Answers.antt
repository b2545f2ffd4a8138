use Rattle.std.proofs.Common.{◌≡◌, ℕ, List, Option, None, Some, IfNone, sym, ap, ◌∙◌, arith}
use Rattle.kb_record.specs.Nesting.{deepest}
use Rattle.kb_record.specs.Reading.{remaining, first_name, behind, read_word}
use Rattle.kb_record.specs.View.{factors_in}
use Rattle.kb_record.specs.declared.cursor.Mark.TheVariants.{Star, Caret}
use Rattle.kb_record.proofs.BareNames.{no_name, name_alone, name_times, name_powered}
use Rattle.kb_record.proofs.tree.Expr.bare_name.Goals as goal

if_none : {X P : Type 0} (found : Option X) → P → IfNone found P
if_none None p = p
if_none (Some x) p = tt

pub returns-in_err-name-clause-none : goal.returns-in_err-name-clause-none
returns-in_err-name-clause-none c =
    let none : first_name (remaining c.new-tokens.result) ≡ None = grind arith in
    if_none c.from_residual.result (λ (text : List ℕ) is. no_name deepest (remaining c.new-tokens.result) text none (ap (λ ts. factors_in (read_word deepest ts)) c.new-tokens.ensures ∙ is))

pub returns-then-take-clause-none : goal.returns-then-take-clause-none
returns-then-take-clause-none c = λ text is.
    let found : first_name (remaining c.new-tokens.result) ≡ Some (c.in_ok-name.name.now, remaining c.take_name.new.self) = grind arith in
    let times : behind Star (remaining c.take_name.new.self) ≡ Some (remaining c.take.new.self) = grind arith in
    name_times deepest (remaining c.new-tokens.result) _ _ c.in_ok-name.name.now text found times (ap (λ ts. factors_in (read_word deepest ts)) c.new-tokens.ensures ∙ is)

pub returns-then-take-2-clause-none : goal.returns-then-take-2-clause-none
returns-then-take-2-clause-none c = λ text is.
    let found : first_name (remaining c.new-tokens.result) ≡ Some (c.in_ok-name.name.now, remaining c.take_name.new.self) = grind arith in
    let single : (behind Star (remaining c.take_name.new.self) ≡ None) × (remaining c.take.new.self ≡ remaining c.take_name.new.self) = grind arith in
    let raised : behind Caret (remaining c.take.new.self) ≡ Some (remaining c.take-2.new.self) = grind arith in
    name_powered deepest (remaining c.new-tokens.result) _ _ c.in_ok-name.name.now text found (ap (behind Caret) (sym single.1) ∙ raised) (ap (λ ts. factors_in (read_word deepest ts)) c.new-tokens.ensures ∙ is)

pub returns-clause-found : goal.returns-clause-found
returns-clause-found c =
    let found : first_name (remaining c.new-tokens.result) ≡ Some (c.in_ok-name.name.now, remaining c.take_name.new.self) = grind arith in
    let single : (behind Star (remaining c.take_name.new.self) ≡ None) × (remaining c.take.new.self ≡ remaining c.take_name.new.self) = grind arith in
    let plain : behind Caret (remaining c.take.new.self) ≡ None = grind arith in
    ap (λ ts. factors_in (read_word deepest ts)) (sym c.new-tokens.ensures) ∙ name_alone deepest (remaining c.new-tokens.result) _ c.in_ok-name.name.now found single.0 (ap (behind Caret) (sym single.1) ∙ plain)
