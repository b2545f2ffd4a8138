use Rattle.std.proofs.Common.{◌≡◌, ℕ, List, [], ◌∷◌, ◌++◌, sym, ap, ◌∙◌}
use Rattle.std.proofs.lemmas.Option.{IfSome_then}
use Rattle.std.specs.List.{remove}
use Rattle.kb_word.specs.Words.{Pair}
use Rattle.kb_index.specs.Lefts.{lefts_of}
use Rattle.kb_index.proofs.Sides.{left_some, sides_replaced}
use Rattle.kb_index.proofs.index.IndexReducer.replace.Goals as goal

pub replace_left-requires-clause-left : goal.replace_left-requires-clause-left
replace_left-requires-clause-left c none =
    left_some c.args.self.now.order c.args.rule.now c.requires.falls
    (ap (λ (r : Pair). r.0) (sym c.in_ok-rule.ensures) ∙ (sym c.left.ensures ∙ none))

pub invariant_of-self-2 : goal.invariant_of-self-2
invariant_of-self-2 c =
    let old : List Pair = c.self.inside.rules.rules in
    let same : remove (lefts_of old) c.args.place ++ c.left.result.now ∷ [] ≡ lefts_of c.replace-gone.new.self.rules =
    ap (λ (l : List ℕ). remove (lefts_of old) c.args.place ++ l ∷ []) c.left.ensures
    ∙ sym (sides_replaced old c.args.place c.in_ok-rule.rule) ∙ ap (λ (rs : List Pair). lefts_of rs) (sym c.replace-gone.ensures.rules) in
    IfSome_then c.replace_left.new.automaton (c.in_ok-replace_left.ensures.ok (lefts_of old) c.self.invariant) (λ sides is. is ∙ same)
