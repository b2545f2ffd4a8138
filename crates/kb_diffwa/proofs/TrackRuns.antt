-- Where the track of a word leads, letter by letter and then along padding.
use Rattle.std.proofs.Common.{◌≡◌, ◌≢◌, ℕ, zero, suc, ◌+◌, ◌<◌, ◌≤◌, Bool, true, false, if◌then◌else◌, IsTrue, List, [], ◌∷◌, ◌++◌, length, Some, None, refl, sym, ap, ◌∙◌, subst, inl, inr, arith}
use Rattle.std.proofs.lemmas.Bool.{cases_Bool, false≢true}
use Rattle.std.proofs.lemmas.List.{append-nil}
use Rattle.std.proofs.lemmas.List.Elements.{All-head, All-tail}
use Rattle.std.proofs.lemmas.Option.{none-some, same_Some}
use Rattle.kb_word.specs.Relations.{IsOver}
use Rattle.kb_fsa.specs.Table.{Table, IsTable, AcceptsFrom, HasSymbols, after, is_accepting, lookup, moves_of, step}
use Rattle.kb_fsa.proofs.Lookups.{IsRow-moves_of, after_none, lookup_above, lookup_from_target, lookup_here, lookup_positive, lookup_there, target_some}
use Rattle.kb_diffwa.specs.Tracks.{IsTrackAfter, at_state, has_ended, may_end, track_moves}
use Rattle.kb_diffwa.proofs.Crossing.{lookup-append_left, lookup-append_right}
use Rattle.kb_diffwa.proofs.TrackMoves.{letters_low}

-- the track of the first word, beside the second, leads from one number to another
pub data TrackRun (table : Table) (n : ℕ) : ℕ → List ℕ → List ℕ → ℕ → Type 0 where
  run_end : {p : ℕ} → TrackRun table n p [] [] p
  run_both : {p next q x y : ℕ} {u v : List ℕ} → lookup (track_moves table n p) x ≡ Some next → TrackRun table n next u v q
      → TrackRun table n p (x ∷ u) (y ∷ v) q
  run_longer : {p next q x : ℕ} {u : List ℕ} → lookup (track_moves table n p) x ≡ Some next → TrackRun table n next u [] q
      → TrackRun table n p (x ∷ u) [] q
  run_padding : {p next q y : ℕ} {v : List ℕ} → lookup (track_moves table n p) (n + 1) ≡ Some next → TrackRun table n next [] v q
      → TrackRun table n p [] (y ∷ v) q

module _ (table : Table) (n : ℕ) (is : IsTable table) (low : HasSymbols n table) where
  -- ---- single moves

  -- by a letter a track moves as the acceptor does
  by_letter : (track x : ℕ) → x ≤ n → lookup (track_moves table n track) x ≡ lookup (moves_of table track) x
  by_letter track x letter = on (may_end table track)
    where
      on : (ends : Bool) → lookup (moves_of table track ++ (if ends then (n + 1, 0) ∷ [] else [])) x ≡ lookup (moves_of table track) x
      on true =
          lookup-append_left (moves_of table track) ((n + 1, 0) ∷ []) x (lookup_there (n + 1, 0) [] x (λ same. omega (arith, same)))
      on false = ap (λ moves. lookup moves x) (append-nil (moves_of table track))

  -- the padding moves a track to 0 where its word may end, and else nowhere
  by_padding : (track : ℕ) → lookup (track_moves table n track) (n + 1) ≡ (if may_end table track then Some 0 else None)
  by_padding track = on (may_end table track)
    where
      none : lookup (moves_of table track) (n + 1) ≡ None
      none = lookup_above (moves_of table track) (n + 1) (λ k e h. omega (arith, letters_low table n low track k e h))

      on : (ends : Bool) → lookup (moves_of table track ++ (if ends then (n + 1, 0) ∷ [] else [])) (n + 1) ≡ (if ends then Some 0 else None)
      on true =
          lookup-append_right (moves_of table track) ((n + 1, 0) ∷ []) (n + 1) none ∙ lookup_here (n + 1, 0) [] (n + 1) refl
      on false = ap (λ moves. lookup moves (n + 1)) (append-nil (moves_of table track)) ∙ none

  pub padding_moves : (track : ℕ) → may_end table track ≡ true → lookup (track_moves table n track) (n + 1) ≡ Some 0
  padding_moves track ends = by_padding track ∙ ap (λ (b : Bool). if b then Some 0 else None) ends

  -- where the padding leads, the word may end there, and it leads to 0
  pub padding_moved : (track next : ℕ) → lookup (track_moves table n track) (n + 1) ≡ Some next → (may_end table track ≡ true) × (next ≡ 0)
  padding_moved track next leads =
      elim (cases_Bool (may_end table track)) [
        | inl ends ↦ (ends, same_Some _ _ (sym leads ∙ padding_moves track ends))
        | inr goes_on ↦ absurd (none-some next (sym (ap (λ (b : Bool). if b then Some 0 else None) goes_on) ∙ sym (by_padding track) ∙ leads))
      ]

  letter_moved : (track x next : ℕ) → x ≤ n → lookup (track_moves table n track) x ≡ Some next → (step table track x ≡ next) × (next ≢ 0)
  letter_moved track x next letter leads =
      let own = sym (by_letter track x letter) ∙ leads in
      let positive = lookup_positive (moves_of table track) x next (IsRow-moves_of table track is) own in
      (target_some (moves_of table track) x next own, λ none. omega (arith, none, positive))

  letter_moves : (track x : ℕ) → x ≤ n → step table track x ≢ 0 → lookup (track_moves table n track) x ≡ Some (step table track x)
  letter_moves track x letter some =
      let positive : 0 < step table track x = (let number = step table track x in omega (arith, some)) in
      by_letter track x letter ∙ lookup_from_target (moves_of table track) x (step table track x) positive refl

  -- a state that isn't 0 may end its word where it accepts
  accepts_there : (track : ℕ) → track ≢ 0 → may_end table track ≡ is_accepting table track
  accepts_there zero some = absurd (some refl)
  accepts_there (suc place) some = refl

  -- ---- tracks that have ended

  letter_le : (x : ℕ) (u : List ℕ) → IsOver n (x ∷ u) → x ≤ n
  letter_le x u over = (All-head (λ (z : ℕ). (0 < z) × (z ≤ n)) x u over).1

  over_rest : (x : ℕ) (u : List ℕ) → IsOver n (x ∷ u) → IsOver n u
  over_rest x u over = All-tail (λ (z : ℕ). (0 < z) × (z ≤ n)) x u over

  -- no letter leads on from 0
  no_letter_at_end : (x next : ℕ) → x ≤ n → lookup (track_moves table n 0) x ≡ Some next → ⊥
  no_letter_at_end x next letter leads = none-some next (sym (by_letter 0 x letter) ∙ leads)

  pub ended_run : (u v : List ℕ) (q : ℕ) → IsOver n u → TrackRun table n 0 u v q → (u ≡ []) × (q ≡ 0)
  ended_run [] [] q over run_end = (refl, refl)
  ended_run (x ∷ u) (y ∷ v) q over (run_both leads rest) = absurd (no_letter_at_end x _ (letter_le x u over) leads)
  ended_run (x ∷ u) [] q over (run_longer leads rest) = absurd (no_letter_at_end x _ (letter_le x u over) leads)
  ended_run [] (y ∷ v) q over (run_padding leads rest) =
      let P : ℕ → Type 0 = λ z. TrackRun table n z [] v q in
      ended_run [] v q over (subst P (padding_moved 0 _ leads).1 rest)

  run_of_ended : (v : List ℕ) → TrackRun table n 0 [] v 0
  run_of_ended [] = run_end
  run_of_ended (y ∷ v) = run_padding (padding_moves 0 refl) (run_of_ended v)

  -- ---- tracks from a state

  longer_both : (p next x y q : ℕ) (u v : List ℕ) → step table p x ≡ next → IsTrackAfter table next u v q → IsTrackAfter table p (x ∷ u) (y ∷ v) q
  longer_both p next x y q u v moved (at_state within leads some) =
      at_state (let more : length v ≤ length u = within in omega arith) (ap (λ s. after table s u) moved ∙ leads) some
  longer_both p next x y q u v moved (has_ended less accepts) =
      has_ended (let more : length u < length v = less in omega arith)
      (let P : ℕ → Type 0 = λ s. AcceptsFrom table s u in subst P (sym moved) accepts)

  longer_alone : (p next x q : ℕ) (u : List ℕ) → step table p x ≡ next → IsTrackAfter table next u [] q → IsTrackAfter table p (x ∷ u) [] q
  longer_alone p next x q u moved (at_state within leads some) =
      at_state (omega arith) (ap (λ s. after table s u) moved ∙ leads) some
  longer_alone p next x q u moved (has_ended less accepts) = absurd (let no : ⊥ = omega (arith, less) in no)

  pub after_run : (u v : List ℕ) (p q : ℕ) → p ≢ 0 → IsOver n u → TrackRun table n p u v q → IsTrackAfter table p u v q
  after_run [] [] p q some over run_end = at_state (omega arith) refl some
  after_run (x ∷ u) (y ∷ v) p q some over (run_both {next = next} leads rest) =
      let moved = letter_moved p x next (letter_le x u over) leads in
      longer_both p next x y q u v moved.0 (after_run u v next q moved.1 (over_rest x u over) rest)
  after_run (x ∷ u) [] p q some over (run_longer {next = next} leads rest) =
      let moved = letter_moved p x next (letter_le x u over) leads in
      longer_alone p next x q u moved.0 (after_run u [] next q moved.1 (over_rest x u over) rest)
  after_run [] (y ∷ v) p q some over (run_padding {next = next} leads rest) =
      let moved = padding_moved p next leads in
      let P : ℕ → Type 0 = λ z. TrackRun table n z [] v q in
      let Q : ℕ → Type 0 = λ z. IsTrackAfter table p [] (y ∷ v) z in
      let ended = ended_run [] v q over (subst P moved.1 rest) in
      subst Q (sym ended.1) (has_ended (omega arith) (sym (accepts_there p some) ∙ moved.0))

  -- where the rest of a word leads somewhere, its first letter does
  first_leads : (p x : ℕ) (u v : List ℕ) (q : ℕ) → IsTrackAfter table p (x ∷ u) v q → step table p x ≢ 0
  first_leads p x u v q (at_state within leads some) none =
      some (sym leads ∙ ap (λ s. after table s u) none ∙ after_none table u)
  first_leads p x u v q (has_ended less accepts) none =
      let P : ℕ → Type 0 = λ s. AcceptsFrom table s u in
      let Q : ℕ → Type 0 = λ s. IsTrue (is_accepting table s) in
      false≢true (subst Q (after_none table u) (subst P none accepts))

  shorter_both : (p x y q : ℕ) (u v : List ℕ) → IsTrackAfter table p (x ∷ u) (y ∷ v) q → IsTrackAfter table (step table p x) u v q
  shorter_both p x y q u v (at_state within leads some) = at_state (omega (arith, within)) leads some
  shorter_both p x y q u v (has_ended less accepts) = has_ended (omega (arith, less)) accepts

  shorter_alone : (p x q : ℕ) (u : List ℕ) → IsTrackAfter table p (x ∷ u) [] q → IsTrackAfter table (step table p x) u [] q
  shorter_alone p x q u (at_state within leads some) = at_state (omega arith) leads some
  shorter_alone p x q u (has_ended less accepts) = absurd (let no : ⊥ = omega (arith, less) in no)

  pub run_after : (u v : List ℕ) (p q : ℕ) → p ≢ 0 → IsOver n u → IsTrackAfter table p u v q → TrackRun table n p u v q
  run_after [] [] p q some over (at_state within leads more) = let P : ℕ → Type 0 = λ z. TrackRun table n p [] [] z in subst P leads run_end
  run_after [] [] p q some over (has_ended less accepts) = absurd (let no : ⊥ = omega (arith, less) in no)
  run_after (x ∷ u) (y ∷ v) p q some over track =
      let leads = first_leads p x u (y ∷ v) q track in
      run_both (letter_moves p x (letter_le x u over) leads)
      (run_after u v (step table p x) q leads (over_rest x u over) (shorter_both p x y q u v track))
  run_after (x ∷ u) [] p q some over track =
      let leads = first_leads p x u [] q track in
      run_longer (letter_moves p x (letter_le x u over) leads)
      (run_after u [] (step table p x) q leads (over_rest x u over) (shorter_alone p x q u track))
  run_after [] (y ∷ v) p q some over (at_state within leads more) = absurd (let no : ⊥ = omega (arith, within) in no)
  run_after [] (y ∷ v) p q some over (has_ended less accepts) =
      run_padding (padding_moves p (accepts_there p some ∙ accepts)) (run_of_ended v)

  -- a track stands somewhere only where the acceptor has an initial state
  pub begins : (u v : List ℕ) (p q : ℕ) → IsTrackAfter table p u v q → p ≢ 0
  begins u v p q (at_state within leads some) none = some (sym leads ∙ ap (λ s. after table s u) none ∙ after_none table u)
  begins u v p q (has_ended less accepts) none =
      let P : ℕ → Type 0 = λ s. AcceptsFrom table s u in
      let Q : ℕ → Type 0 = λ s. IsTrue (is_accepting table s) in
      false≢true (subst Q (after_none table u) (subst P none accepts))

  -- ---- acceptance

  -- the word of a track that may end is accepted
  pub accepted : (u v : List ℕ) (p q : ℕ) → IsTrackAfter table p u v q → may_end table q ≡ true → AcceptsFrom table p u
  accepted u v p q (at_state within leads some) ends =
      let P : ℕ → Type 0 = λ s. IsTrue (is_accepting table s) in subst P (sym leads) (sym (accepts_there q some) ∙ ends)
  accepted u v p q (has_ended less accepts) ends = accepts
