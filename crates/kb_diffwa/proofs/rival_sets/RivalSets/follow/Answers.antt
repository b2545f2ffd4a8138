use Rattle.std.proofs.Common.{◌≡◌, ℕ, ◌-◌, length, sym, ap, ◌∙◌, subst, arith}
use Rattle.kb_diffwa.specs.RivalSets.{AreWithin, Steps}
use Rattle.kb_diffwa.proofs.EarlyShown.{early_none}
use Rattle.kb_diffwa.proofs.rival_sets.RivalSets.follow.Goals as goal

pub lead_on-requires-clause-within : goal.lead_on-requires-clause-within
lead_on-requires-clause-within c =
    let it = c.args.self.now in
    let steps = c.index-steps.result.now in
    let place = c.from.result - 1 in
    let from : c.from.result ≡ c.args.letter = c.from.ensures in
    let positive = c.requires.positive in
    let most = c.requires.letter in
    let long = it.one_each in
    let P : Steps → Type 0 = AreWithin it.differences in
    let Q : ℕ → Type 0 = λ count. AreWithin count steps in
    let many : length c.as_mut_slice.result.now ≡ it.differences =
    ap length c.as_mut_slice.ensures.value ∙ c.loop-rivals.invariant.long in
    subst Q (sym many) (subst P (sym c.index-steps.ensures) (it.within place steps (omega arith)))

pub returns-then-shows_less_early : goal.returns-then-shows_less_early
returns-then-shows_less_early c =
    let it = c.args.self.now in
    early_none it.n it.differences it.letters.items c.args.set.now c.args.letter c.requires.positive c.requires.letter
    it.within it.one_each it.some (c.shows_less_early.ensures c.if-shows_less_early.true)
