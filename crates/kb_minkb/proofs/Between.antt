-- Where in an ascending row a symbol's move is: at a place, or, between two places, nowhere.
use Rattle.std.proofs.Common.{◌≡◌, ℕ, ◌-◌, ◌<◌, ◌≤◌, Some, length, get_or, unwrap_or, sym, ap, ◌∙◌, subst, inl, inr, arith}
use Rattle.std.proofs.lemmas.Bool.{cases_lt, cases_eq}
use Rattle.std.proofs.lemmas.List.{get_or_default}
use Rattle.kb_fsa.specs.Table.{IsRow, Moves, target, lookup}
use Rattle.kb_fsa.proofs.Lookups.{lookup_at, lookup_nowhere}

module _ (moves : Moves) (place symbol : ℕ) (row : IsRow moves) where
  abbrev pub symbol_at : ℕ → ℕ
  symbol_at k = (get_or moves k (0, 0)).0

  -- the place before has a lower symbol, and this one a greater
  pub none_between : (0 < place → symbol_at (place - 1) < symbol) → (place < length moves → symbol < symbol_at place)
      → place ≤ length moves → 0 ≡ target moves symbol
  none_between before after low =
      let apart : (k : ℕ) → k < length moves → symbol_at k ≡ symbol → ⊥ = λ k h same.
      elim (cases_lt k place) [
        | inl below ↦
            let near = before (omega arith) in
            elim (cases_lt k (place - 1)) [
              | inl less ↦
                  let up : symbol_at k < symbol_at (place - 1) = row.ascends k (place - 1) (0, 0) less (omega arith) in
                  omega (arith, near, up, same)
              | inr last ↦
                  let is : symbol_at k ≡ symbol_at (place - 1) = ap symbol_at (omega arith) in
                  omega (arith, near, is, same)
            ]
        | inr above ↦
            let near = after (omega arith) in
            elim (cases_lt place k) [
              | inl more ↦
                  let up : symbol_at place < symbol_at k = row.ascends place k (0, 0) more h in
                  omega (arith, near, up, same)
              | inr first ↦
                  let is : symbol_at k ≡ symbol_at place = ap symbol_at (omega arith) in
                  omega (arith, near, is, same)
            ]
      ] in
      let none = lookup_nowhere moves symbol (λ k d h same. apart k h (ap (λ (m : ℕ × ℕ). m.0) (get_or_default moves k (0, 0) d h) ∙ same)) in
      ap (λ found. unwrap_or found 0) (sym none)

  pub here : symbol_at place ≡ symbol → place < length moves → (get_or moves place (0, 0)).1 ≡ target moves symbol
  here is low =
      let P : ℕ → Type 0 = λ s. lookup moves s ≡ Some (get_or moves place (0, 0)).1 in
      ap (λ found. unwrap_or found 0) (sym (subst P is (lookup_at moves place (0, 0) row.ascends low)))
