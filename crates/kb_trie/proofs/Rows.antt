-- The rows of the table of steps.
use Rattle.std.proofs.Common.{◌≡◌, ℕ, ◌+◌, ◌*◌, ◌<◌, ◌≤◌, List, [], ◌∷◌, length, get_or, set, replicate, refl, sym, ap, ◌∙◌, subst, inl, inr, arith, length-set}
use Rattle.std.proofs.Math.Nat.{mul_comm}
use Rattle.std.proofs.lemmas.Nat.{mul-add-lt, same_from_place}
use Rattle.std.proofs.lemmas.List.{get_or-set_same, get_or-set_other, get_or-replicate, length_push, length-replicate}
use Rattle.std.proofs.lemmas.Bool.{cases_lt, cases_eq}
use Rattle.kb_trie.specs.States.{IsChild, word}
use Rattle.kb_trie.specs.Steps.{AreSteps, IsStep}
use Rattle.kb_trie.proofs.Longest.{step_root}
use Rattle.kb_trie.proofs.Words.{words_root}

-- a place of an earlier row
pub place_before : (state other width letter : ℕ) → other < state → letter < width → other * width + letter < state * width
place_before state other width letter earlier column =
    omega (arith, mul-add-lt other width letter state earlier column, mul_comm width state)

-- of the empty word alone
root_at : (width state letter : ℕ) → state < 1 → letter < width
    → IsStep ([] ∷ []) state letter (get_or (replicate width 0) (state * width + letter) 0)
root_at width state letter within column =
    let root : 0 ≡ state = omega arith in
    let none : (child : ℕ) → ¬ IsChild ([] ∷ []) 0 letter child = λ child is.
    let zero : child ≡ 0 = omega (arith, is.within) in
    omega (arith, ap length (sym (ap (word ([] ∷ [])) zero) ∙ is.spelled), length_push (word ([] ∷ []) 0) letter) in
    let place : 0 * width + letter ≡ letter = omega arith in
    let value : get_or (replicate width 0) (0 * width + letter) 0 ≡ 0 =
    ap (λ (p : ℕ). get_or (replicate width 0) p 0) place ∙ get_or-replicate width letter 0 0 column in
    let P : ℕ → Type 0 = λ s. IsStep ([] ∷ []) s letter (get_or (replicate width 0) (s * width + letter) 0) in
    let Q : ℕ → Type 0 = λ a. IsStep ([] ∷ []) 0 letter a in
    subst P root (subst Q (sym value) (step_root ([] ∷ []) words_root letter none))

pub steps_root : (width : ℕ) (rows : List ℕ) → rows ≡ replicate width 0 → AreSteps ([] ∷ []) width rows
steps_root width rows is =
    let P : List ℕ → Type 0 = λ rs. AreSteps ([] ∷ []) width rs in
    let one : 1 * width ≡ width = omega arith in
    subst P (sym is) (record {
      room = omega (arith, length-replicate {A = ℕ} width 0);
      each = λ state letter within column. root_at width state letter within column;
    })

-- a row is copied, up to a column
pub record Copies (before after : List ℕ) (width from to column : ℕ) : Type 0 where
  pub count : length after ≡ length before
  pub row : (letter : ℕ) → letter < column → get_or after (to * width + letter) 0 ≡ get_or before (from * width + letter) 0
  pub others : (state letter : ℕ) → state < to → letter < width
      → get_or after (state * width + letter) 0 ≡ get_or before (state * width + letter) 0

pub copies_none : (rows : List ℕ) (width from to : ℕ) → Copies rows rows width from to 0
copies_none rows width from to =
    record { count = refl; row = λ letter below. absurd (omega arith); others = λ state letter earlier below. refl }

pub copies_more : (before after : List ℕ) (width from to column : ℕ) → from < to → column < width → to * width + width ≤ length before
    → Copies before after width from to column
    → Copies before (set after (to * width + column) (get_or after (from * width + column) 0)) width from to (column + 1)
copies_more before after width from to column apart within room copies =
    let place : ℕ = to * width + column in
    let value : ℕ = get_or after (from * width + column) 0 in
    let inside : place < length after = omega (arith, copies.count) in
    record {
      count = length-set after place value ∙ copies.count;
      row = λ letter below.
          elim (cases_eq letter column) [
            | inl same ↦
                ap (λ (l : ℕ). get_or (set after (to * width + column) (get_or after (from * width + column) 0)) (to * width + l) 0) same
                ∙ get_or-set_same after place value 0 inside ∙ copies.others from column apart within
                ∙ ap (λ (l : ℕ). get_or before (from * width + l) 0) (sym same)
            | inr other ↦
                get_or-set_other after place (to * width + letter) value 0 (λ same. omega arith) ∙ copies.row letter (omega arith)
          ];
      others = λ state letter earlier below.
          let less : state * width + letter < to * width = place_before to state width letter earlier below in
          get_or-set_other after place (state * width + letter) value 0 (λ same. omega arith) ∙ copies.others state letter earlier below;
    }

-- the first states of a list have a step by a letter
pub record Leads (before after : List ℕ) (width : ℕ) (states : List ℕ) (letter to done : ℕ) : Type 0 where
  pub count : length after ≡ length before
  pub led : (i : ℕ) → i < done → get_or after (get_or states i 0 * width + letter) 0 ≡ to
  pub others : (state other : ℕ) → other < width → ((i : ℕ) → i < done → get_or states i 0 ≡ state → other ≡ letter → ⊥)
      → get_or after (state * width + other) 0 ≡ get_or before (state * width + other) 0

pub leads_none : (rows : List ℕ) (width : ℕ) (states : List ℕ) (letter to : ℕ) → Leads rows rows width states letter to 0
leads_none rows width states letter to =
    record { count = refl; led = λ i below. absurd (omega arith); others = λ state other below apart. refl }

pub leads_more : (before after : List ℕ) (width : ℕ) (states : List ℕ) (letter to done state : ℕ) → letter < width
    → state ≡ get_or states done 0 → state * width + width ≤ length before → Leads before after width states letter to done
    → Leads before (set after (state * width + letter) to) width states letter to (done + 1)
leads_more before after width states letter to done state column is room leads =
    let place : ℕ = state * width + letter in
    let inside : place < length after = omega (arith, leads.count) in
    record {
      count = length-set after place to ∙ leads.count;
      led = λ i below.
          elim (cases_eq (get_or states i 0 * width + letter) (state * width + letter)) [
            | inl same ↦
                ap (λ (p : ℕ). get_or (set after (state * width + letter) to) p 0) same ∙ get_or-set_same after place to 0 inside
            | inr other ↦
                let early : i < done = elim (cases_lt i done) [
                  | inl early ↦ early
                  | inr late ↦
                      let last : i ≡ done = omega arith in
                      absurd (other (ap (λ (k : ℕ). get_or states k 0 * width + letter) last ∙ ap (λ (s : ℕ). s * width + letter) (sym is)))
                ] in
                get_or-set_other after place (get_or states i 0 * width + letter) to 0 other ∙ leads.led i early
          ];
      others = λ one other below apart.
          get_or-set_other after place (one * width + other) to 0
          (λ same.
          let both = same_from_place one other state letter width below column same in
          apart done (omega arith) (sym is ∙ sym both.0) both.1)
          ∙ leads.others one other below (λ i early. apart i (omega arith));
    }
