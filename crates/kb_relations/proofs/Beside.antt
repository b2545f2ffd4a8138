-- The texts of pairs of words that begin alike.
use Rattle.std.proofs.Common.{◌≡◌, ◌∙◌, ℕ, ◌+◌, ◌<◌, IsTrue, List, [], ◌∷◌, ◌++◌, take, drop, length, get_or, refl, sym, ap, ap₂, subst, arith}
use Rattle.std.proofs.lemmas.List.{drop_all, drop_more, take_more, take-append-drop}
use Rattle.kb_word.specs.Relations.{IsOver}
use Rattle.kb_fsa.specs.Table.{after, is_accepting, step}
use Rattle.kb_fsa.specs.PairSymbols.{pair_symbol}
use Rattle.kb_fsa.specs.Padding.{padded}
use Rattle.kb_fsa.specs.Language.{Automaton, generators}
use Rattle.kb_fsa.proofs.Lookups.{after-append}
use Rattle.kb_leastpair.specs.LeastPair.{IsAccepted, IsEnd}
use Rattle.kb_structure.proofs.Letters.{over_append, over_front}
use Rattle.kb_relations.specs.Trails.{state_beside_itself}

-- what both words begin with is read beside itself
pub padded-front : (n : ℕ) (front u v : List ℕ) → padded n (front ++ u) (front ++ v) ≡ padded n front front ++ padded n u v
padded-front n [] u v = refl
padded-front n (x ∷ front) u v = ap (λ text. pair_symbol n x x ∷ text) (padded-front n front u v)

module _ (multiplier : Automaton) (word : List ℕ) where
  abbrev n : ℕ
  n = generators multiplier.alphabet

  abbrev beside : ℕ → ℕ
  beside = state_beside_itself multiplier word

  -- from one prefix to the next
  pub beside-next : (place letter : ℕ) → place < length word → letter ≡ get_or word place letter
      → beside (place + 1) ≡ step multiplier.table (beside place) (pair_symbol n letter letter)
  beside-next place letter within is =
      let longer : take (place + 1) word ≡ take place word ++ letter ∷ [] =
      take_more word place letter within ∙ ap (λ x. take place word ++ x ∷ []) (sym is) in
      let text : padded n (take (place + 1) word) (take (place + 1) word)
      ≡ padded n (take place word) (take place word) ++ pair_symbol n letter letter ∷ [] =
      ap (λ w. padded n w w) longer ∙ padded-front n (take place word) (letter ∷ []) (letter ∷ []) in
      ap (after multiplier.table multiplier.table.initial) text
      ∙ after-append multiplier.table multiplier.table.initial (padded n (take place word) (take place word))
      (pair_symbol n letter letter ∷ [])

  -- a second word behind a prefix of the word
  pub accepted_behind : (place : ℕ) (end : List ℕ) → IsOver n word → IsEnd multiplier (beside place) (drop place word) end
      → IsAccepted multiplier word (take place word ++ end)
  accepted_behind place end over is_end =
      let front = take place word in
      let rest = drop place word in
      let split : front ++ rest ≡ word = take-append-drop place word in
      let P : List ℕ → Type 0 = IsOver n in
      let text : padded n word (front ++ end) ≡ padded n front front ++ padded n rest end =
      ap (λ w. padded n w (front ++ end)) (sym split) ∙ padded-front n front rest end in
      let led : after multiplier.table multiplier.table.initial (padded n word (front ++ end))
      ≡ after multiplier.table (beside place) (padded n rest end) =
      ap (after multiplier.table multiplier.table.initial) text
      ∙ after-append multiplier.table multiplier.table.initial (padded n front front) (padded n rest end) in
      let Accepted : ℕ → Type 0 = λ state. IsTrue (is_accepting multiplier.table state) in
      record {
        first_over = over;
        second_over = over_append n front end (over_front n front rest (subst P (sym split) over)) is_end.second_over;
        accepted = subst Accepted (sym led) is_end.accepted;
      }

  -- the word with a letter behind it
  pub accepted_longer : (letter : ℕ) → IsOver n word → IsEnd multiplier (beside (length word)) [] (letter ∷ [])
      → IsAccepted multiplier word (take (length word) word ++ letter ∷ [])
  accepted_longer letter over is_end =
      let P : List ℕ → Type 0 = λ rest. IsEnd multiplier (beside (length word)) rest (letter ∷ []) in
      accepted_behind (length word) (letter ∷ []) over (subst P (sym (drop_all (length word) word (omega arith))) is_end)

  -- the word without its last letter
  pub accepted_shorter : (place last : ℕ) → IsOver n word → place + 1 ≡ length word → last ≡ get_or word place last
      → IsEnd multiplier (beside place) (last ∷ []) [] → IsAccepted multiplier word (take place word ++ [])
  accepted_shorter place last over end is_last is_end =
      let rest : drop place word ≡ last ∷ [] =
      drop_more word place last (omega arith)
      ∙ ap₂ (λ (x : ℕ) (xs : List ℕ). x ∷ xs) (sym is_last) (drop_all (place + 1) word (omega arith)) in
      let P : List ℕ → Type 0 = λ w. IsEnd multiplier (beside place) w [] in
      accepted_behind place [] over (subst P (sym rest) is_end)
