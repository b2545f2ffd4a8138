-- Labels that come from their origins are those along the least texts.
use Rattle.std.proofs.Common.{◌≡◌, ℕ, zero, suc, ◌<◌, ◌≤◌, List, [], ◌∷◌, ◌++◌, length, get_or, slice_get, Some, refl, sym, ap, ◌∙◌, subst, inl, inr, arith}
use Rattle.std.proofs.lemmas.Bool.{cases_eq}
use Rattle.std.proofs.lemmas.List.{length_push, get_or_push, get_or_append_left}
use Rattle.std.proofs.lemmas.Option.{slice_get-get_or, get_or_from_slice_get}
use Rattle.kb_word.specs.Words.{OneOf}
use Rattle.kb_word.specs.Rewriting.{IsIrreducible}
use Rattle.kb_rules.specs.Steps.{Leads}
use Rattle.kb_rules.proofs.Tracing.{leads_push}
use Rattle.kb_explore.specs.Exploration.{numbered, IsTraced, at_start, along, AreFromEarlier}
use Rattle.kb_diff.specs.Groups.{Group}
use Rattle.kb_labels.specs.Labels.{Turns}
use Rattle.kb_labels.specs.Places.{label_at, IsFromOrigin, AreFromOrigins}

-- an origin is an earlier place's
origin_earlier : (origins : List (ℕ × ℕ)) → AreFromEarlier origins → (parent symbol place : ℕ) → slice_get origins place ≡ Some (parent, symbol)
    → parent ≤ place
origin_earlier origins earlier zero symbol place at = omega arith
origin_earlier origins earlier (suc parent) symbol place at = let before = earlier (suc place) parent symbol at in omega arith

pub origin_at_earlier : (origins : List (ℕ × ℕ)) → AreFromEarlier origins → (place : ℕ) → place < length origins
    → (get_or origins place (0, 0)).0 ≤ place
origin_at_earlier origins earlier place within =
    origin_earlier origins earlier (get_or origins place (0, 0)).0 (get_or origins place (0, 0)).1 place (slice_get-get_or origins place (0, 0) within)

module _ (group : Group) (origins : List (ℕ × ℕ)) where
  -- along a text that is traced, each pair of letters turns the label before it into the next
  pub traced_label : (labels : List (List ℕ)) → AreFromOrigins group origins labels → AreFromEarlier origins → (state : ℕ) (text : List ℕ)
      → IsTraced origins state text → (place : ℕ) → state ≡ suc place → place < length labels
      → Leads (Turns group) [] text (label_at labels place)
  traced_label labels are earlier state text (at_start e) place is within =
      let P : ℕ → Type 0 = λ s. numbered origins s ≡ Some (0, 0) in
      sym (are.each place (0, 0) within (subst P is e))
  traced_label labels are earlier state text (along {parent} {symbol} {text = front} e rest) place is within =
      let P : ℕ → Type 0 = λ s. numbered origins s ≡ Some (suc parent, symbol) in
      let before = earlier state parent symbol e in
      let further = traced_label labels are earlier (suc parent) front rest parent refl (omega arith) in
      leads_push (Turns group) [] front (label_at labels parent) symbol (label_at labels place) further
      (are.each place (suc parent, symbol) within (subst P is e))

  -- what comes from an origin stays so as labels come behind
  origin_kept : (labels : List (List ℕ)) (label : List ℕ) (parent symbol : ℕ) (word : List ℕ) → parent ≤ length labels
      → IsFromOrigin group labels parent symbol word → IsFromOrigin group (labels ++ label ∷ []) parent symbol word
  origin_kept labels label zero symbol word within from = from
  origin_kept labels label (suc place) symbol word within from =
      let P : List ℕ → Type 0 = λ w. Turns group w symbol word in
      subst P (sym (get_or_append_left labels (label ∷ []) [] place (omega arith))) from

  pub no_labels : AreFromOrigins group origins []
  no_labels = record { no_more = omega arith; each = λ place origin within at. absurd (let no : ⊥ = omega arith in no) }

  -- one more label
  pub one_more_label : (labels : List (List ℕ)) (label : List ℕ) (origin : ℕ × ℕ) → AreFromEarlier origins → length labels < length origins
      → get_or origins (length labels) (0, 0) ≡ origin
      → AreFromOrigins group origins labels → IsFromOrigin group labels origin.0 origin.1 label
      → AreFromOrigins group origins (labels ++ label ∷ [])
  one_more_label labels label origin earlier more is are from = record {
    no_more = omega (arith, length_push labels label);
    each = λ place own within at. elim (cases_eq place (length labels)) [
      | inl last ↦
          let same : own ≡ origin =
          sym (get_or_from_slice_get origins place own (0, 0) at) ∙ ap (λ p. get_or origins p (0, 0)) last ∙ is in
          let here : label_at (labels ++ label ∷ []) place ≡ label = get_or_push labels label [] place (sym last) in
          let P : ℕ × ℕ → Type 0 = λ o. IsFromOrigin group labels o.0 o.1 label in
          let Q : List ℕ → Type 0 = λ w. IsFromOrigin group (labels ++ label ∷ []) own.0 own.1 w in
          subst Q (sym here)
          (origin_kept labels label own.0 own.1 label (omega (arith, last, origin_earlier origins earlier own.0 own.1 place at)) (subst P (sym same) from))
      | inr before ↦
          let low : place < length labels = omega (arith, length_push labels label) in
          let here : label_at (labels ++ label ∷ []) place ≡ label_at labels place = get_or_append_left labels (label ∷ []) [] place low in
          let Q : List ℕ → Type 0 = λ w. IsFromOrigin group (labels ++ label ∷ []) own.0 own.1 w in
          subst Q (sym here)
          (origin_kept labels label own.0 own.1 (label_at labels place) (omega (arith, low, origin_earlier origins earlier own.0 own.1 place at))
          (are.each place own low at))
    ];
  }

-- turned labels are irreducible
pub turned_irreducible : (group : Group) (d : List ℕ) (text : List ℕ) (e : List ℕ) → IsIrreducible (OneOf group.rules) d
    → Leads (Turns group) d text e → IsIrreducible (OneOf group.rules) e
turned_irreducible group d [] e irreducible leads =
    let P : List ℕ → Type 0 = λ w. IsIrreducible (OneOf group.rules) w in subst P leads irreducible
turned_irreducible group d (symbol ∷ text) e irreducible leads =
    turned_irreducible group leads.0 text e leads.1.normal.irreducible leads.2
