use Rattle.std.proofs.Common.{◌≡◌, ◌<◌, ◌^◌, ℕ, length, sym, ap, ◌∙◌, subst}
use Rattle.kb_fsa.specs.Table.{Table}
use Rattle.kb_fsarat.specs.Layers.{IsLayer, Layering, lengths}
use Rattle.kb_fsarat.proofs.LayerLemmas.{length_unrepeated, layering_repeats, layering_more}
use Rattle.kb_fsarat.proofs.layers.Layers.grow.Goals as goal
use Rattle.kb_fsarat.proofs.layers.Layers.grow.Goals.{In_ok-place}

-- how many lengths there were sets for
count : (c : In_ok-place) → lengths c.self.inside.repeats_from c.self.inside.sets.keys ≡ c.args.self.now.count
count c = ap (λ (layers : Layering). layers.count) (c.self.view_is ∙ c.in_ok-set.ensures.layers)

-- the set is that of the next length
next : (c : In_ok-place) → IsLayer c.self.inside.table.now (length c.self.inside.sets.keys) c.in_ok-set.set
next c =
    let own : c.self.inside.table.now ≡ c.args.self.now.table =
    ap (λ (layers : Layering). layers.table) (c.self.view_is ∙ c.in_ok-set.ensures.layers) in
    let few = length_unrepeated c.self.inside.repeats_from c.self.inside.sets.keys c.args.self.now.count (count c) c.requires in
    let Next : Table → ℕ → Type 0 = λ table k. IsLayer table k c.in_ok-set.set in
    subst (λ (table : Table). Next table (length c.self.inside.sets.keys)) (sym own)
    (subst (Next c.args.self.now.table) (sym few) c.in_ok-set.ensures.set)

pub invariant_of-self-then-not-is_new : goal.invariant_of-self-then-not-is_new
invariant_of-self-then-not-is_new c =
    let at = (goal.at.invariant_of-self-then-not-is_new c).In_ok-place in (
      layering_repeats c.self.inside.table.now c.self.inside.sets.keys c.insert_full.new.self.keys c.self.inside.repeats_from c.in_ok-set.set
          c.in_ok-place.is_new c.self.invariant.0 (next at) c.in_ok-place.ensures.added c.in_ok-place.ensures.keys c.in_ok-place.place
          c.in_ok-place.ensures.stored c.if-not-is_new.true,
      c.self.invariant.1,
    )

pub invariant_of-self-else-not-is_new : goal.invariant_of-self-else-not-is_new
invariant_of-self-else-not-is_new c =
    let at = (goal.at.invariant_of-self-else-not-is_new c).In_ok-place in (
      layering_more c.self.inside.table.now c.self.inside.sets.keys c.insert_full.new.self.keys c.self.inside.repeats_from c.in_ok-set.set
          c.in_ok-place.is_new c.self.invariant.0 (next at) c.in_ok-place.ensures.added c.in_ok-place.ensures.keys
          (subst (λ n. n < 2 ^ 64) (sym (count at)) c.requires) c.if-not-is_new.false,
      c.self.invariant.1,
    )
