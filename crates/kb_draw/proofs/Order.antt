-- What the slots of all places have, as a list in the order of the places.
use Rattle.std.proofs.Common.{◌≡◌, ℕ, ◌<◌, option_map, List, length, map, get_or, slice_get, Option, Some, None, sym, ◌∙◌, ap, subst, ⊎_elim, arith}
use Rattle.std.specs.List.{All}
use Rattle.std.proofs.lemmas.List.{length-map}
use Rattle.std.proofs.lemmas.List.Elements.{All-contains}
use Rattle.std.proofs.lemmas.Option.{slice_get-map, get_or_from_slice_get}
use Rattle.kb_draw.specs.Sharing.{IsShared}
use Rattle.kb_draw.specs.Made.{AreMadeInOrder}
use Rattle.kb_draw.specs.Shares.{AreInOrder, HasMade, IsMadeBy, IsSound}
use Rattle.kb_draw.specs.Slots.{AreEmpty, AreFull, IsAt, IsFilled}
use Rattle.kb_draw.specs.declared.making_share.Placed.{Placed}
use Rattle.kb_draw.specs.declared.making_share.MakingShare.{MakingShare}

module _ {Made : Type 0} where
  -- where something was made for each place, no slot is empty
  pub all_full : (places : ℕ) (shares : List (MakingShare Made)) (before after : List (Option Made)) → IsShared places HasMade shares
      → AreEmpty places before → IsFilled (IsMadeBy shares) before after → AreFull after
  all_full places shares before after shared are filled = λ place within.
      let count = filled.count in
      let empty = are.count in
      let one = shared place (omega (arith, within, count, empty)) in
      filled.filled place one.did.0 (record { share = one.share; worker = one.among; among = one.did.1 })

  -- what stands in the slots was made for its place
  pub in_order : (places : ℕ) (shares : List (MakingShare Made)) (before after : List (Option Made)) (list : List Made)
      → AreEmpty places before → IsFilled (IsMadeBy shares) before after → map Some list ≡ after → AreInOrder places shares list
  in_order places shares before after list are filled taken = record {
    count = sym (length-map list Some) ∙ ap length taken ∙ filled.count ∙ are.count;
    each = λ place one at.
        let some : slice_get (map Some list) place ≡ Some (Some one) = slice_get-map Some list place ∙ ap (option_map Some) at in
        let stands : slice_get after place ≡ Some (Some one) = subst (λ (slots : List (Option Made)). slice_get slots place ≡ Some (Some one)) taken some in
        ⊎_elim
        (λ (was : IsAt before place one). absurd (let no : None ≡ Some one = sym (are.nothing place) ∙ was in cc))
        (λ (made : IsMadeBy shares place one). made)
        (filled.from place one (get_or_from_slice_get after place (Some one) None stands));
  }

  -- the slot has something
  pub not_empty : (slots : List (Option Made)) (place : ℕ) (slot : Option Made) → AreFull slots → place < length slots
      → slot ≡ get_or slots place slot → slot ≡ None → ⊥
  not_empty slots place slot full within is none =
      let has = full place within in
      let there : None ≡ get_or slots place None = subst (λ (s : Option Made). s ≡ get_or slots place s) none is in
      let no : None ≡ Some has.0 = there ∙ has.1 in
      cc

  module _ (places : ℕ) (Is : ℕ → Made → Type 0) where
    -- what was made for its place is what belongs there
    pub made_in_order : (shares : List (MakingShare Made)) (list : List Made) → All (IsSound places Is) shares → AreInOrder places shares list
        → AreMadeInOrder places Is list
    made_in_order shares list sound are = record {
      count = are.count;
      each = λ place one at.
          let by = are.each place one at in
          let own = All-contains (IsSound places Is) shares by.share sound by.worker in
          let P : Placed Made → Type 0 = λ it. (it.place < places) × Is it.place it.made in
          (All-contains P by.share.made.items (record { place = place; made = one }) own by.among).1;
    }
