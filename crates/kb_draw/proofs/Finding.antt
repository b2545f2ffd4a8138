-- How what the workers found is put together.
use Rattle.std.proofs.Common.{◌≡◌, ℕ, ◌<◌, ◌≤◌, List, [], ◌∷◌, ◌++◌, Option, Some, None, refl, sym, subst, inl, inr, ⊎_elim, arith}
use Rattle.std.specs.Prelude.{IfSome, IfNone}
use Rattle.std.specs.List.{All, Contains}
use Rattle.std.proofs.lemmas.List.Elements.{All-push, Contains-append_left, Contains-append_right}
use Rattle.kb_draw.specs.Sharing.{IsShared}
use Rattle.kb_draw.specs.First.{AllLack, IsFirstFound}
use Rattle.kb_draw.specs.Earliest.{FoundAt, IsEarlier, IsEarliestOf}
use Rattle.kb_draw.specs.declared.search_share.SearchShare.{SearchShare}

module _ {Found : Type 0} (places : ℕ) where
  pub no_shares : IsEarliestOf {Found = Found} places [] (record { place = places; found = None })
  no_shares = record {
    among = inl (refl, refl);
    first = λ i x within. absurd (let no : ⊥ = omega (arith, within) in no);
  }

  pub one_more_share : (shares : List (SearchShare Found)) (share before chosen : SearchShare Found) → IsEarlier before share chosen
      → IsEarliestOf places shares before → IsEarliestOf places (shares ++ share ∷ []) chosen
  one_more_share shares share before chosen earlier all = ⊎_elim
      (λ (first : (chosen ≡ before) × (before.place ≤ share.place)).
      let T : SearchShare Found → Type 0 = IsEarliestOf places (shares ++ share ∷ []) in
      subst T (sym first.0) (record {
        among = ⊎_elim (λ (none : (before.place ≡ places) × (before.found ≡ None)). inl none)
            (λ (one : (it : SearchShare Found) × Contains shares it × (before ≡ it)).
            inr (one.0, Contains-append_left shares (share ∷ []) one.0 one.1, one.2))
            all.among;
        first = All-push (λ (it : SearchShare Found). before.place ≤ it.place) shares share all.first first.1;
      }))
      (λ (second : (chosen ≡ share) × (share.place ≤ before.place)).
      let low = second.1 in
      let T : SearchShare Found → Type 0 = IsEarliestOf places (shares ++ share ∷ []) in
      subst T (sym second.0) (record {
        among = inr (share, Contains-append_right shares (share ∷ []) share (0, omega arith, refl), refl);
        first = All-push (λ (it : SearchShare Found). share.place ≤ it.place) shares share
            (λ k d within. let was = all.first k d within in omega (arith, was, low)) (omega arith);
      }))
      earlier

  module _ (Has : ℕ → Found → Type 0) (Lacks : ℕ → Type 0) where
    within_all : (place : ℕ) (found : Option Found) → FoundAt places Has place found → place ≤ places
    within_all place None at = omega (arith, at)
    within_all place (Some found) at = let low = at.0 in omega (arith, low)

    -- what the earliest share has, where each share has what it says
    pub earliest_at : (shares : List (SearchShare Found)) (earliest : SearchShare Found)
        → All (λ share. FoundAt places Has share.place share.found) shares → IsEarliestOf places shares earliest
        → FoundAt places Has earliest.place earliest.found
    earliest_at shares earliest each is = ⊎_elim
        (λ (none : (earliest.place ≡ places) × (earliest.found ≡ None)).
        subst (FoundAt places Has earliest.place) (sym none.1) none.0)
        (λ (one : (it : SearchShare Found) × Contains shares it × (earliest ≡ it)).
        let At : SearchShare Found → Type 0 = λ share. FoundAt places Has share.place share.found in
        let at = one.1 in
        subst At (sym one.2) (subst At at.2 (each at.0 one.0 at.1)))
        is.among

    -- each place before it lacks what is searched
    pub all_before : (shares : List (SearchShare Found)) (earliest : SearchShare Found)
        → IsShared places (λ share place. place < share.place → Lacks place) shares
        → FoundAt places Has earliest.place earliest.found → IsEarliestOf places shares earliest
        → AllLack earliest.place Lacks
    all_before shares earliest shared at is place low =
        let within = within_all earliest.place earliest.found at in
        let one = shared place (omega (arith, low, within)) in
        let among = one.among in
        let P : SearchShare Found → Type 0 = λ share. earliest.place ≤ share.place in
        let most : earliest.place ≤ one.share.place = subst P among.2 (is.first among.0 one.share among.1) in
        one.did (omega (arith, low, most))

    pub some_found : (place : ℕ) (found : Option Found) → FoundAt places Has place found → AllLack place Lacks
        → IfSome found (IsFirstFound places Has Lacks)
    some_found place None at before = tt
    some_found place (Some found) at before = record { place = place; within = at.0; has = at.1; earlier = before }

    pub none_found : (place : ℕ) (found : Option Found) → FoundAt places Has place found → AllLack place Lacks
        → IfNone found (AllLack places Lacks)
    none_found place None at before = subst (λ end. AllLack end Lacks) at before
    none_found place (Some found) at before = tt
