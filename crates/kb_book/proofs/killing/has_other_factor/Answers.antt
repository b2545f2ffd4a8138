use Rattle.std.proofs.Common.{◌≢◌, ℕ, List, All, subst}
use Rattle.std.proofs.lemmas.Bool.{false≢true}
use Rattle.std.proofs.lemmas.List.Elements.{All-map, All-contains}
use Rattle.std.proofs.lemmas.Iterator.Adapters.{YieldsList-from_rev_slice}
use Rattle.std.proofs.lemmas.Iterator.Consumers.{YieldsList-end}
use Rattle.kb_machine.specs.Lines.{rules_of}
use Rattle.kb_book.specs.Factors.{IsLeftFactor}
use Rattle.kb_book.proofs.Searching.{All-reversed}
use Rattle.kb_book.proofs.killing.has_other_factor.Goals as goal

pub returns : goal.returns
returns c =
    let live : List ℕ = c.args.live.now in
    let P : ℕ → Type 0 = λ other. ¬ ((other ≢ c.args.k) × IsLeftFactor (rules_of c.args.lines.now) other c.args.word.now) in
    let passed = YieldsList-end (YieldsList-from_rev_slice live cc) c.loop-other.yielded _ c.loop-other.yielded_by _ _ c.in-None.is c.next.ensures.steps in
    let Q : List ℕ → Type 0 = λ numbers. All P numbers in
    let none : All P live = All-reversed P live (subst Q passed.0 (All-map P (λ y. y.now) c.loop-other.yielded c.loop-other.invariant)) in
    (λ e. absurd (false≢true e), λ has. absurd (All-contains P live has.0 none has.1 (has.2, has.3)))
