-- How words compare that are read side by side, letter by letter.
use Rattle.std.proofs.Common.{◌≡◌, ◌≢◌, ℕ, suc, ◌+◌, ◌<◌, ◌≤◌, List, [], ◌∷◌, length, Some, None, refl, sym, ap, ◌∙◌, subst, inl, inr, arith}
use Rattle.std.proofs.lemmas.Bool.{cases_eq, cases_lt, eq-eqb, le-ltb, lt-ltb, ne_eqb}
use Rattle.std.proofs.lemmas.List.Elements.{All-head, All-tail}
use Rattle.std.proofs.lemmas.Option.{none-some, same_Some}
use Rattle.kb_word.specs.Words.{Less as Precedes, earlier, shorter}
use Rattle.kb_word.specs.Relations.{IsOver}
use Rattle.kb_diffwa.specs.Comparing.{Compares, Comparison, Ended, Equal, Greater, Less, compared, compared_by, ended, equal, greater, less}

-- from one comparison to another, as s and v go on and v ends no later
pub data ComparedRun (n : ℕ) : Comparison → List ℕ → List ℕ → Comparison → Type 0 where
  compared_end : {c : Comparison} → ComparedRun n c [] [] c
  compared_both : {c between last : Comparison} {a b : ℕ} {s v : List ℕ} → compared n c a b ≡ Some between
      → ComparedRun n between s v last → ComparedRun n c (a ∷ s) (b ∷ v) last
  compared_padded : {c between last : Comparison} {a : ℕ} {s : List ℕ} → compared n c a (n + 1) ≡ Some between
      → ComparedRun n between s [] last → ComparedRun n c (a ∷ s) [] last

-- ---- single letters

pub padding_ends : (n a : ℕ) (c : Comparison) → compared n c a (n + 1) ≡ Some Ended
padding_ends n a Equal = rw (eq-eqb (n + 1) (n + 1) refl) refl
padding_ends n a Less = rw (eq-eqb (n + 1) (n + 1) refl) refl
padding_ends n a Greater = rw (eq-eqb (n + 1) (n + 1) refl) refl
padding_ends n a Ended = rw (eq-eqb (n + 1) (n + 1) refl) refl

no_padding : (n b : ℕ) → b ≤ n → b ≢ n + 1
no_padding n b letter same = omega (arith, same)

equal_goes_on : (n a b : ℕ) → b ≤ n → compared n Equal a b ≡ Some (compared_by a b)
equal_goes_on n a b letter = rw (ne_eqb b (n + 1) (no_padding n b letter)) refl

ended_has_none : (n a b : ℕ) → b ≤ n → compared n Ended a b ≡ None
ended_has_none n a b letter = rw (ne_eqb b (n + 1) (no_padding n b letter)) refl

pub by_same : (a b : ℕ) → b ≡ a → compared_by a b ≡ Equal
by_same a b same = rw (eq-eqb b a same) refl

pub by_lesser : (a b : ℕ) → b < a → compared_by a b ≡ Less
by_lesser a b lesser = rw (ne_eqb b a (λ same. omega (arith, same)), lt-ltb b a lesser) refl

pub by_greater : (a b : ℕ) → a < b → compared_by a b ≡ Greater
by_greater a b more = rw (ne_eqb b a (λ same. omega (arith, same)), le-ltb b a (omega arith)) refl

-- a letter more leaves the comparison as it is
IsSettled : ℕ → Comparison → Type 0
IsSettled n c = (a b : ℕ) → b ≤ n → compared n c a b ≡ Some c

less_settled : (n : ℕ) → IsSettled n Less
unfolding IsSettled
less_settled n a b letter = rw (ne_eqb b (n + 1) (no_padding n b letter)) refl

greater_settled : (n : ℕ) → IsSettled n Greater
unfolding IsSettled
greater_settled n a b letter = rw (ne_eqb b (n + 1) (no_padding n b letter)) refl

-- it stays so while v is as long as s, and then v has ended
data Settles (c : Comparison) (s v : List ℕ) : Comparison → Type 0 where
  keeps : length v ≡ length s → Settles c s v c
  ends : length v < length s → Settles c s v Ended

settles_longer : (c last : Comparison) (a b : ℕ) (s v : List ℕ) → Settles c s v last → Settles c (a ∷ s) (b ∷ v) last
settles_longer c last a b s v (keeps same) = keeps (ap suc same)
settles_longer c last a b s v (ends fewer) = ends (omega arith)

settles_shorter : (c last : Comparison) (a b : ℕ) (s v : List ℕ) → Settles c (a ∷ s) (b ∷ v) last → Settles c s v last
settles_shorter c last a b s v (keeps same) = keeps (omega (arith, same))
settles_shorter c last a b s v (ends fewer) = ends (omega arith)

-- ---- words of one length precede one another by their first difference

precedes_on : (x y : ℕ) (u v : List ℕ) → x ≡ y → length u ≡ length v → Precedes u v → Precedes (x ∷ u) (y ∷ v)
precedes_on x y u v same as_long (shorter fewer) = absurd (let no : ⊥ = omega (arith, as_long) in no)
precedes_on x y u v same as_long (earlier _ is) = earlier (ap suc as_long) (inr (same, is))

precedes_back : (x y : ℕ) (u v : List ℕ) → x ≡ y → length u ≡ length v → Precedes (x ∷ u) (y ∷ v) → Precedes u v
precedes_back x y u v same as_long (shorter fewer) = absurd (let no : ⊥ = omega (arith, as_long) in no)
precedes_back x y u v same as_long (earlier _ (inl lesser)) = absurd (let no : ⊥ = omega (arith, same) in no)
precedes_back x y u v same as_long (earlier _ (inr is)) = earlier as_long is.1

precedes_letter : (x y : ℕ) (u v : List ℕ) → x ≢ y → length u ≡ length v → Precedes (x ∷ u) (y ∷ v) → x < y
precedes_letter x y u v differ as_long (shorter fewer) = absurd (let no : ⊥ = omega (arith, as_long) in no)
precedes_letter x y u v differ as_long (earlier _ (inl lesser)) = lesser
precedes_letter x y u v differ as_long (earlier _ (inr is)) = absurd (differ is.0)

none_precedes : ¬ Precedes [] []
none_precedes (shorter fewer) = omega arith
none_precedes (earlier _ is) = is

-- ---- words that go on

compares_on : (a b : ℕ) (s v : List ℕ) (c : Comparison) → b ≡ a → Compares s v c → Compares (a ∷ s) (b ∷ v) c
compares_on a b s v Equal same (equal is) = equal cc
compares_on a b s v Less same (less as_long is) = less (ap suc as_long) (precedes_on b a v s same as_long is)
compares_on a b s v Greater same (greater as_long is) =
    greater (ap suc as_long) (precedes_on a b s v (sym same) (sym as_long) is)
compares_on a b s v Ended same (ended fewer) = ended (omega arith)

compares_back : (a b : ℕ) (s v : List ℕ) (c : Comparison) → b ≡ a → Compares (a ∷ s) (b ∷ v) c → Compares s v c
compares_back a b s v Equal same (equal is) = equal cc
compares_back a b s v Less same (less as_long is) =
    let rest : length v ≡ length s = omega (arith, as_long) in less rest (precedes_back b a v s same rest is)
compares_back a b s v Greater same (greater as_long is) =
    let rest : length v ≡ length s = omega (arith, as_long) in
    greater rest (precedes_back a b s v (sym same) (sym rest) is)
compares_back a b s v Ended same (ended fewer) = ended (omega arith)

less_from : (a b : ℕ) (s v : List ℕ) (c : Comparison) → b < a → Settles Less s v c → Compares (a ∷ s) (b ∷ v) c
less_from a b s v c lesser (keeps same) = less (ap suc same) (earlier (ap suc same) (inl lesser))
less_from a b s v c lesser (ends fewer) = ended (omega arith)

less_back : (a b : ℕ) (s v : List ℕ) (c : Comparison) → b < a → Compares (a ∷ s) (b ∷ v) c → Settles Less s v c
less_back a b s v Equal lesser (equal is) = absurd (let same : b ≡ a = cc in let no : ⊥ = omega (arith, same) in no)
less_back a b s v Less lesser (less as_long is) = keeps (omega (arith, as_long))
less_back a b s v Greater lesser (greater as_long is) =
    let rest : length s ≡ length v = omega (arith, as_long) in
    let more = precedes_letter a b s v (λ same. omega (arith, same)) rest is in
    absurd (let no : ⊥ = omega (arith, more) in no)
less_back a b s v Ended lesser (ended fewer) = ends (omega arith)

greater_from : (a b : ℕ) (s v : List ℕ) (c : Comparison) → a < b → Settles Greater s v c → Compares (a ∷ s) (b ∷ v) c
greater_from a b s v c more (keeps same) = greater (ap suc same) (earlier (ap suc (sym same)) (inl more))
greater_from a b s v c more (ends fewer) = ended (omega arith)

greater_back : (a b : ℕ) (s v : List ℕ) (c : Comparison) → a < b → Compares (a ∷ s) (b ∷ v) c → Settles Greater s v c
greater_back a b s v Equal more (equal is) = absurd (let same : b ≡ a = cc in let no : ⊥ = omega (arith, same) in no)
greater_back a b s v Less more (less as_long is) =
    let rest : length v ≡ length s = omega (arith, as_long) in
    let lesser = precedes_letter b a v s (λ same. omega (arith, same)) rest is in
    absurd (let no : ⊥ = omega (arith, lesser) in no)
greater_back a b s v Greater more (greater as_long is) = keeps (omega (arith, as_long))
greater_back a b s v Ended more (ended fewer) = ends (omega arith)

compares_none : (v : List ℕ) (c : Comparison) → Compares [] v c → (v ≡ []) × (c ≡ Equal)
compares_none v Equal (equal is) = (is, refl)
compares_none [] Less (less as_long is) = absurd (none_precedes is)
compares_none (b ∷ v) Less (less as_long is) = absurd (let no : ⊥ = omega (arith, as_long) in no)
compares_none [] Greater (greater as_long is) = absurd (none_precedes is)
compares_none (b ∷ v) Greater (greater as_long is) = absurd (let no : ⊥ = omega (arith, as_long) in no)
compares_none v Ended (ended fewer) = absurd (let no : ⊥ = omega arith in no)

none_compares : (a : ℕ) (s : List ℕ) (c : Comparison) → Compares (a ∷ s) [] c → c ≡ Ended
none_compares a s Equal (equal is) = absurd (let no : ⊥ = omega (arith, ap length is) in no)
none_compares a s Less (less as_long is) = absurd (let no : ⊥ = omega (arith, as_long) in no)
none_compares a s Greater (greater as_long is) = absurd (let no : ⊥ = omega (arith, as_long) in no)
none_compares a s Ended (ended fewer) = refl

module _ (n : ℕ) where
  letter : (b : ℕ) (v : List ℕ) → IsOver n (b ∷ v) → b ≤ n
  letter b v over = (All-head (λ (z : ℕ). (0 < z) × (z ≤ n)) b v over).1

  over_rest : (b : ℕ) (v : List ℕ) → IsOver n (b ∷ v) → IsOver n v
  over_rest b v over = All-tail (λ (z : ℕ). (0 < z) × (z ≤ n)) b v over

  -- ---- words that have ended

  ended_run : (s : List ℕ) → ComparedRun n Ended s [] Ended
  ended_run [] = compared_end
  ended_run (a ∷ s) = compared_padded (padding_ends n a Ended) (ended_run s)

  run_ended : (s : List ℕ) (last : Comparison) → ComparedRun n Ended s [] last → last ≡ Ended
  run_ended [] last compared_end = refl
  run_ended (a ∷ s) last (compared_padded {between = between} is rest) =
      let same : between ≡ Ended = same_Some _ _ (sym is ∙ padding_ends n a Ended) in
      let P : Comparison → Type 0 = λ c. ComparedRun n c s [] last in
      run_ended s last (subst P same rest)

  -- a word that has ended has no letter more
  pub ended_empty : (s v : List ℕ) (last : Comparison) → IsOver n v → ComparedRun n Ended s v last → v ≡ []
  ended_empty s [] last over run = refl
  ended_empty [] (b ∷ v) last over run = elim run [ ]
  ended_empty (a ∷ s) (b ∷ v) last over (compared_both {between = between} is rest) =
      absurd (none-some between (sym (ended_has_none n a b (letter b v over)) ∙ is))

  -- ---- words of which one is less already

  settles_of_run : (c last : Comparison) (s v : List ℕ) → IsSettled n c → IsOver n v → ComparedRun n c s v last
      → Settles c s v last
  unfolding IsSettled
  settles_of_run c last [] [] settled over compared_end = keeps refl
  settles_of_run c last [] (b ∷ v) settled over run = elim run [ ]
  settles_of_run c last (a ∷ s) [] settled over (compared_padded {between = between} is rest) =
      let same : between ≡ Ended = same_Some _ _ (sym is ∙ padding_ends n a c) in
      let P : Comparison → Type 0 = λ c. ComparedRun n c s [] last in
      let Q : Comparison → Type 0 = λ last. Settles c (a ∷ s) [] last in
      subst Q (sym (run_ended s last (subst P same rest))) (ends (omega arith))
  settles_of_run c last (a ∷ s) (b ∷ v) settled over (compared_both {between = between} is rest) =
      let same : between ≡ c = same_Some _ _ (sym is ∙ settled a b (letter b v over)) in
      let P : Comparison → Type 0 = λ c. ComparedRun n c s v last in
      settles_longer c last a b s v (settles_of_run c last s v settled (over_rest b v over) (subst P same rest))

  run_of_settles : (c last : Comparison) (s v : List ℕ) → IsSettled n c → IsOver n v → Settles c s v last
      → ComparedRun n c s v last
  unfolding IsSettled
  run_of_settles c last [] [] settled over (keeps same) = compared_end
  run_of_settles c last [] [] settled over (ends fewer) = absurd (let no : ⊥ = omega arith in no)
  run_of_settles c last [] (b ∷ v) settled over (keeps same) = absurd (let no : ⊥ = omega (arith, same) in no)
  run_of_settles c last [] (b ∷ v) settled over (ends fewer) = absurd (let no : ⊥ = omega arith in no)
  run_of_settles c last (a ∷ s) [] settled over (keeps same) = absurd (let no : ⊥ = omega (arith, same) in no)
  run_of_settles c last (a ∷ s) [] settled over (ends fewer) = compared_padded (padding_ends n a c) (ended_run s)
  run_of_settles c last (a ∷ s) (b ∷ v) settled over settles =
      compared_both (settled a b (letter b v over))
      (run_of_settles c last s v settled (over_rest b v over) (settles_shorter c last a b s v settles))

  -- ---- words that were the same so far

  first_led : (a b : ℕ) (s v : List ℕ) (between last : Comparison) → IsOver n (b ∷ v)
      → compared n Equal a b ≡ Some between → ComparedRun n between s v last
      → (ComparedRun n Equal s v last → Compares s v last) → Compares (a ∷ s) (b ∷ v) last
  first_led a b s v between last over is rest of_equal =
      let led : between ≡ compared_by a b = same_Some _ _ (sym is ∙ equal_goes_on n a b (letter b v over)) in
      let P : Comparison → Type 0 = λ c. ComparedRun n c s v last in
      let back = over_rest b v over in
      elim (cases_eq b a) [
        | inl same ↦ compares_on a b s v last same (of_equal (subst P (led ∙ by_same a b same) rest))
        | inr differ ↦
            elim (cases_lt b a) [
              | inl lesser ↦
                  less_from a b s v last lesser
                  (settles_of_run Less last s v (less_settled n) back (subst P (led ∙ by_lesser a b lesser) rest))
              | inr within ↦
                  let more : a < b = omega (arith, differ) in
                  greater_from a b s v last more
                  (settles_of_run Greater last s v (greater_settled n) back (subst P (led ∙ by_greater a b more) rest))
            ]
      ]

  -- a run from equality ends at how the words compare
  pub compares_of_run : (s v : List ℕ) (last : Comparison) → IsOver n v → ComparedRun n Equal s v last
      → Compares s v last
  compares_of_run [] [] last over compared_end = equal refl
  compares_of_run [] (b ∷ v) last over run = elim run [ ]
  compares_of_run (a ∷ s) [] last over (compared_padded {between = between} is rest) =
      let same : between ≡ Ended = same_Some _ _ (sym is ∙ padding_ends n a Equal) in
      let P : Comparison → Type 0 = λ c. ComparedRun n c s [] last in
      let Q : Comparison → Type 0 = λ last. Compares (a ∷ s) [] last in
      subst Q (sym (run_ended s last (subst P same rest))) (ended (omega arith))
  compares_of_run (a ∷ s) (b ∷ v) last over (compared_both {between = between} is rest) =
      first_led a b s v between last over is rest (λ run. compares_of_run s v last (over_rest b v over) run)

  first_leads : (a b : ℕ) (s v : List ℕ) (last : Comparison) → IsOver n (b ∷ v) → Compares (a ∷ s) (b ∷ v) last
      → (Compares s v last → ComparedRun n Equal s v last) → ComparedRun n Equal (a ∷ s) (b ∷ v) last
  first_leads a b s v last over compares to_equal =
      let on = equal_goes_on n a b (letter b v over) in
      let back = over_rest b v over in
      elim (cases_eq b a) [
        | inl same ↦
            compared_both (on ∙ ap Some (by_same a b same)) (to_equal (compares_back a b s v last same compares))
        | inr differ ↦
            elim (cases_lt b a) [
              | inl lesser ↦
                  compared_both (on ∙ ap Some (by_lesser a b lesser))
                  (run_of_settles Less last s v (less_settled n) back (less_back a b s v last lesser compares))
              | inr within ↦
                  let more : a < b = omega (arith, differ) in
                  compared_both (on ∙ ap Some (by_greater a b more))
                  (run_of_settles Greater last s v (greater_settled n) back (greater_back a b s v last more compares))
            ]
      ]

  -- and back
  pub run_of_compares : (s v : List ℕ) (last : Comparison) → IsOver n v → Compares s v last
      → ComparedRun n Equal s v last
  run_of_compares [] v last over compares =
      let none = compares_none v last compares in
      let P : List ℕ → Type 0 = λ v. ComparedRun n Equal [] v last in
      let Q : Comparison → Type 0 = λ last. ComparedRun n Equal [] [] last in
      subst P (sym none.0) (subst Q (sym none.1) compared_end)
  run_of_compares (a ∷ s) [] last over compares =
      let Q : Comparison → Type 0 = λ last. ComparedRun n Equal (a ∷ s) [] last in
      subst Q (sym (none_compares a s last compares)) (compared_padded (padding_ends n a Equal) (ended_run s))
  run_of_compares (a ∷ s) (b ∷ v) last over compares =
      first_leads a b s v last over compares (λ rest. run_of_compares s v last (over_rest b v over) rest)
