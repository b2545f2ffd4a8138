-- Two files, and their names.
use Rattle.std.proofs.Common.{◌≡◌, ◌≢◌, ◌⊎◌, inl, inr, ℕ, zero, suc, ◌<◌, ◌^◌, List, [], ◌∷◌, ◌++◌, length, get_or, ap, arith, codes, decimal}
use Rattle.std.specs.List.{AllPairs, Contains}
use Rattle.std.proofs.lemmas.Fmt.{decimal_injective}
use Rattle.std.proofs.lemmas.List.{append_cancel_left}
use Rattle.std.proofs.lemmas.List.Elements.{Contains-append_left, Contains-push, Contains-push_cases}
use Rattle.kb_evidence.specs.Files.{rules_file, acceptor_file, log_file, difference_file, minkb_file, minred_file, multiplier_file}

-- ---- a list of two

module _ {X : Type 0} where
  pub first_contained : (first : X) (others : List X) → Contains (first ∷ others) first
  first_contained first others =
      Contains-append_left (first ∷ []) others first (Contains-push [] first)

  pub second_contained : (first second : X) → Contains (first ∷ second ∷ []) second
  second_contained first second = Contains-push (first ∷ []) second

  none_in_empty : (x : X) → ¬ Contains {X = X} [] x
  none_in_empty x here = omega (arith, here.1)

  pub contained_cases : (first second x : X) → Contains (first ∷ second ∷ []) x
      → (first ≡ x) ⊎ (second ≡ x)
  contained_cases first second x here = elim (Contains-push_cases (first ∷ []) second x here) [
    | inl before ↦ elim (Contains-push_cases [] first x before) [
      | inl none ↦ absurd (none_in_empty x none)
      | inr is ↦ inl is
    ]
    | inr is ↦ inr is
  ]

  -- two that differ
  pub both_differ : (first second : X) → first ≢ second
      → AllPairs (λ (one other : X). one ≢ other) (first ∷ second ∷ [])
  both_differ first second differ zero (suc zero) d before within = differ
  both_differ first second differ i j d before within = absurd (omega (arith, before, within))

-- ---- the names of the files that belong to a presentation's file

-- endings of other lengths make other names
names_differ : (file one other : List ℕ) → length one ≢ length other → file ++ one ≢ file ++ other
names_differ file one other differ same =
    differ (ap length (append_cancel_left file one other same))

-- so do endings that differ in their second letter
letters_differ : (file one other : List ℕ) → get_or one 1 0 ≢ get_or other 1 0
    → file ++ one ≢ file ++ other
letters_differ file one other differ same =
    differ (ap (λ ending. get_or ending 1 0) (append_cancel_left file one other same))

module _ (file : List ℕ) where
  pub rules_beside_acceptor : rules_file file ≢ acceptor_file file
  rules_beside_acceptor =
      names_differ file (codes ".kbprog") (codes ".wa")
      (λ same. let seven_three : 7 ≡ 3 = same in omega arith)

  pub log_beside_rules : log_file file ≢ rules_file file
  log_beside_rules =
      names_differ file (codes ".kblog") (codes ".kbprog")
      (λ same. let six_seven : 6 ≡ 7 = same in omega arith)

  pub log_beside_acceptor : log_file file ≢ acceptor_file file
  log_beside_acceptor =
      names_differ file (codes ".kblog") (codes ".wa")
      (λ same. let six_three : 6 ≡ 3 = same in omega arith)

  pub log_beside_differences : log_file file ≢ difference_file file
  log_beside_differences =
      names_differ file (codes ".kblog") (codes ".diff")
      (λ same. let six_five : 6 ≡ 5 = same in omega arith)

  pub rules_beside_differences : rules_file file ≢ difference_file file
  rules_beside_differences =
      names_differ file (codes ".kbprog") (codes ".diff")
      (λ same. let seven_five : 7 ≡ 5 = same in omega arith)

  pub left_sides_beside_rules : minred_file file ≢ minkb_file file
  left_sides_beside_rules =
      names_differ file (codes ".minred") (codes ".minkb")
      (λ same. let seven_six : 7 ≡ 6 = same in omega arith)

  pub acceptor_beside_multiplier : (x : ℕ) → acceptor_file file ≢ multiplier_file file x
  acceptor_beside_multiplier x =
      letters_differ file (codes ".wa") (codes ".m" ++ decimal x)
      (λ same. let w_m : 119 ≡ 109 = same in omega arith)

  -- the multipliers of two generators
  pub multipliers_apart : (x y : ℕ) → x < 2 ^ 64 → y < 2 ^ 64 → x ≢ y
      → multiplier_file file x ≢ multiplier_file file y
  multipliers_apart x y x_fits y_fits differ same =
      let endings = append_cancel_left file (codes ".m" ++ decimal x) (codes ".m" ++ decimal y) same in
      let numerals = append_cancel_left (codes ".m") (decimal x) (decimal y) endings in
      differ (decimal_injective x y x_fits y_fits numerals)
