-- Trails that grow with their word, and that are cut where it changes.
use Rattle.std.proofs.Common.{◌≡◌, ◌≢◌, ◌∙◌, ℕ, ◌+◌, ◌<◌, ◌≤◌, List, [], ◌∷◌, ◌++◌, take, length, get_or, set, Some, slice_get, refl, sym, ap, subst, inl, inr, arith}
use Rattle.std.proofs.lemmas.Bool.{cases_lt, cases_order}
use Rattle.std.proofs.lemmas.List.{get_or_read, get_or-take, get_or_push, get_or_append_left, length-append, length-take, length-take-le, take-append-le, take-take, length_push, length-set, get_or-set_same, get_or-set_other}
use Rattle.std.proofs.lemmas.Option.{same_Some, slice_get_read, slice_get_within}
use Rattle.kb_fsa.specs.Table.{step}
use Rattle.kb_fsa.specs.PairSymbols.{pair_symbol}
use Rattle.kb_fsa.specs.Padding.{padded}
use Rattle.kb_fsa.specs.Table.{state_after}
use Rattle.kb_fsa.specs.Language.{Automaton, generators}
use Rattle.kb_relations.specs.Trails.{state_beside_itself, IsTrail, AreTrails}
use Rattle.kb_relations.proofs.Beside.{beside-next}

module _ (multiplier : Automaton) (word : List ℕ) where
  pub trail_none : IsTrail multiplier word []
  trail_none = record {
    within = omega arith;
    each = λ place below. absurd (let no : ⊥ = omega arith in no);
  }

  pub trail_start : (states : List ℕ) (state : ℕ) → length states ≡ 0 → state ≡ multiplier.table.initial
      → IsTrail multiplier word (states ++ state ∷ [])
  trail_start states state none is =
      let long = length_push states state in
      record {
        within = omega arith;
        each = λ place below.
            let first : place ≡ 0 = omega arith in
            let P : ℕ → Type 0 = λ i. get_or (states ++ state ∷ []) i 0 ≡ state_beside_itself multiplier word i in
            subst P (sym first) (get_or_push states state 0 0 none ∙ is);
      }

  pub trail_next : (states : List ℕ) (place letter from state : ℕ) → IsTrail multiplier word states → length states ≡ place + 1
      → place < length word → letter ≡ get_or word place letter → from ≡ get_or states place 0
      → state ≡ step multiplier.table from (pair_symbol (generators multiplier.alphabet) letter letter)
      → IsTrail multiplier word (states ++ state ∷ [])
  trail_next states place letter from state trail last within is_letter is_from is =
      let n = generators multiplier.alphabet in
      let long = length_push states state in
      let here : state ≡ state_beside_itself multiplier word (place + 1) =
      is ∙ ap (λ p. step multiplier.table p (pair_symbol n letter letter)) (is_from ∙ trail.each place (omega arith))
      ∙ sym (beside-next multiplier word place letter within is_letter) in
      record {
        within = omega arith;
        each = λ other below. elim (cases_lt other (length states)) [
          | inl earlier ↦ get_or_append_left states (state ∷ []) 0 other earlier ∙ trail.each other earlier
          | inr past ↦
              let at : other ≡ place + 1 = omega arith in
              let P : ℕ → Type 0 = λ i. get_or (states ++ state ∷ []) i 0 ≡ state_beside_itself multiplier word i in
              subst P (sym at) (get_or_push states state 0 (place + 1) last ∙ here)
        ];
      }

  -- what is known of a word is known of each word that begins with as many of its letters
  pub trail_cut : (states end : List ℕ) (kept : ℕ) → kept ≤ length word → IsTrail multiplier word states
      → IsTrail multiplier (take kept word ++ end) (take kept states)
  trail_cut states end kept within trail =
      let other = take kept word ++ end in
      let shorter = length-take kept states in
      let front = length-take-le kept word within in
      let long = length-append (take kept word) end in
      let n = generators multiplier.alphabet in
      record {
        within = omega arith;
        each = λ place below.
            let low : place < kept = omega arith in
            let known : place < length states = omega arith in
            let alike : take place word ≡ take place other =
            sym (take-append-le place (take kept word) end (omega arith) ∙ take-take place kept word (omega arith)) in
            get_or-take kept states place 0 low ∙ trail.each place known
            ∙ ap (λ w. state_after multiplier.table (padded n w w)) alike;
      }

-- trails where none knows a state
pub no_trails : (multipliers : List Automaton) (word : List ℕ) (trails : List (List ℕ)) → length trails ≡ length multipliers
    → ((index : ℕ) → get_or trails index [] ≡ []) → AreTrails multipliers word trails
no_trails multipliers word trails one_each empty = record {
  one_each = one_each;
  each = λ index multiplier is.
      let P : List ℕ → Type 0 = IsTrail multiplier word in subst P (sym (empty index)) (trail_none multiplier word);
}

module _ (multipliers : List Automaton) (word : List ℕ) (trails : List (List ℕ)) (before : AreTrails multipliers word trails) where
  -- the trail at a multiplier's place is its own
  pub trail_at : (index : ℕ) (multiplier : Automaton) (trail : List ℕ) → index < length multipliers
      → multiplier ≡ get_or multipliers index multiplier → trail ≡ get_or trails index trail → IsTrail multiplier word trail
  trail_at index multiplier trail within is is_trail =
      let bound : index < length trails = omega (arith, before.one_each) in
      let at = slice_get_read multipliers (length multipliers) index multiplier refl within is in
      subst (IsTrail multiplier word) (sym (get_or_read trails index trail bound is_trail [])) (before.each index multiplier at)

  -- one of the trails has grown
  pub trails_grown : (index : ℕ) (multiplier : Automaton) (trail : List ℕ) → slice_get multipliers index ≡ Some multiplier
      → IsTrail multiplier word trail → AreTrails multipliers word (set trails index trail)
  trails_grown index multiplier trail is grown = record {
    one_each = length-set trails index trail ∙ before.one_each;
    each = λ other of_other is_other. elim (cases_order other index) [
      | inl same ↦
          let bound = slice_get_within multipliers index multiplier is in
          let within : index < length trails = omega (arith, bound, before.one_each) in
          let at : slice_get multipliers index ≡ Some of_other = ap (slice_get multipliers) (sym same) ∙ is_other in
          let one : multiplier ≡ of_other = same_Some multiplier of_other (sym is ∙ at) in
          let P : Automaton → Type 0 = λ m. IsTrail m word trail in
          let Q : List ℕ → Type 0 = IsTrail of_other word in
          subst Q (sym (ap (λ i. get_or (set trails index trail) i []) same ∙ get_or-set_same trails index trail [] within))
          (subst P one grown)
      | inr apart ↦
          let different : other ≢ index = λ e. elim apart [ inl more ↦ omega arith | inr fewer ↦ omega arith ] in
          let Q : List ℕ → Type 0 = IsTrail of_other word in
          subst Q (sym (get_or-set_other trails index other trail [] different)) (before.each other of_other is_other)
    ];
  }

  -- all of them are cut where the word changes
  pub trails_cut : (end : List ℕ) (kept : ℕ) (cut : List (List ℕ)) → kept ≤ length word → length cut ≡ length trails
      → ((index : ℕ) → index < length trails → get_or cut index [] ≡ take kept (get_or trails index []))
      → AreTrails multipliers (take kept word ++ end) cut
  trails_cut end kept cut within one_each each = record {
    one_each = one_each ∙ before.one_each;
    each = λ index multiplier is.
        let bound = slice_get_within multipliers index multiplier is in
        let inside : index < length trails = omega (arith, bound, before.one_each) in
        let Q : List ℕ → Type 0 = IsTrail multiplier (take kept word ++ end) in
        subst Q (sym (each index inside)) (trail_cut multiplier word (get_or trails index []) end kept within (before.each index multiplier is));
  }
