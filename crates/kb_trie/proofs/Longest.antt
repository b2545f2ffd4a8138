-- Longest suffixes that are states' words: steps and failure links.
use Rattle.std.proofs.Common.{◌≡◌, ℕ, zero, suc, ◌+◌, ◌<◌, ◌≤◌, List, [], ◌∷◌, ◌++◌, length, drop, sym, ap, ◌∙◌, subst, inl, inr, arith, length-drop, Option, Some, None, IfSome, IfNone}
use Rattle.std.specs.Option.{unwrap_or}
use Rattle.std.proofs.lemmas.List.{length_push, drop-append-le}
use Rattle.std.proofs.lemmas.Bool.{cases_lt}
use Rattle.kb_word.specs.Words.{EndsWith}
use Rattle.kb_trie.specs.States.{AreWords, IsChild, IsLonger, IsNoChild, word}
use Rattle.kb_trie.specs.Steps.{IsLink, IsLongestSuffix, IsStep}
use Rattle.kb_trie.proofs.Suffixes.{ends_nil, ends_all, ends_within, ends_push, ends_pop, ends_shorter, ends_length, ends_spelled, drop_ends, ends_of_nil}

-- every word ends with that of state 0
pub ends_root : (words : List (List ℕ)) → AreWords words → (w : List ℕ) → EndsWith w (word words 0)
ends_root words are w =
    let P : List ℕ → Type 0 = λ v. EndsWith w v in subst P (sym are.root) (ends_nil w)

-- the state's word is that of an earlier state, with which w ends, and the letter
pub record EndsBy (words : List (List ℕ)) (w : List ℕ) (x state : ℕ) : Type 0 where
  pub parent : ℕ
  pub within : parent < length words
  pub ends : EndsWith w (word words parent)
  pub spelled : word words state ≡ word words parent ++ x ∷ []

pub ends_by : (words : List (List ℕ)) → AreWords words → (w : List ℕ) (x state : ℕ) → state < length words → 0 < state
    → EndsWith (w ++ x ∷ []) (word words state) → EndsBy words w x state
ends_by words are w x state within some ends =
    let longer : IsLonger words state = are.longer state some within in
    let P : List ℕ → Type 0 = λ v. EndsWith (w ++ x ∷ []) v in
    let split = ends_pop w (word words longer.parent) x longer.letter (subst P longer.spelled ends) in
    record {
      parent = longer.parent;
      within = omega (arith, longer.earlier);
      ends = split.0;
      spelled = longer.spelled ∙ ap (λ (y : ℕ). word words longer.parent ++ y ∷ []) (sym split.1);
    }

-- what ends a word with a letter more is empty, or ends with the letter too
pub ends_cases : (words : List (List ℕ)) → AreWords words → (w : List ℕ) (x : ℕ) (v : List ℕ)
    → ((state : ℕ) → state < length words → EndsBy words w x state → EndsWith v (word words state))
    → (state : ℕ) → state < length words → EndsWith (w ++ x ∷ []) (word words state) → EndsWith v (word words state)
ends_cases words are w x v each state within ends =
    elim (cases_lt 0 state) [
      | inl some ↦ each state within (ends_by words are w x state within some ends)
      | inr none ↦
          let root : 0 ≡ state = omega arith in
          let P : ℕ → Type 0 = λ s. EndsWith v (word words s) in
          subst P root (ends_root words are v)
    ]

-- a letter more for the longest suffix is a letter more for the word
pub longest_more : (words : List (List ℕ)) → AreWords words → (w u v : List ℕ) (x : ℕ) → IsLongestSuffix words w u
    → IsLongestSuffix words (u ++ x ∷ []) v → IsLongestSuffix words (w ++ x ∷ []) v
longest_more words are w u v x outer inner =
    record {
      ends = ends_within (w ++ x ∷ []) (u ++ x ∷ []) v (ends_push w u x outer.ends) inner.ends;
      longest = ends_cases words are w x v
          (λ state within by.
          inner.longest state within
          (ends_spelled u (word words by.parent) (word words state) x by.spelled (outer.longest by.parent by.within by.ends)));
    }

-- the longest suffix of the empty word
pub longest_nil : (words : List (List ℕ)) → AreWords words → IsLongestSuffix words [] (word words 0)
longest_nil words are =
    let P : List ℕ → Type 0 = λ u. IsLongestSuffix words [] u in
    subst P (sym are.root) (record { ends = ends_all []; longest = λ state within ends. ends })

-- a step to a child
pub step_child : (words : List (List ℕ)) (state letter child : ℕ) → IsChild words state letter child → IsStep words state letter child
step_child words state letter child is =
    let w : List ℕ = word words state ++ letter ∷ [] in
    let P : List ℕ → Type 0 = λ u. IsLongestSuffix words (word words state ++ letter ∷ []) u in
    let own : IsLongestSuffix words w w = record { ends = ends_all w; longest = λ other within ends. ends } in
    record { within = is.within; longest = subst P (sym is.spelled) own }

-- the step of the link, where there is no child
pub step_linked : (words : List (List ℕ)) → AreWords words → (state letter link after : ℕ) → IsNoChild words state letter
    → IsLink words state link → IsStep words link letter after → IsStep words state letter after
step_linked words are state letter link after none is step =
    let s : List ℕ = word words state in
    let l : List ℕ = word words link in
    let t : List ℕ = word words after in
    let falls : EndsWith s l = ends_within s (drop 1 s) l (drop_ends s) is.longest.ends in
    record {
      within = step.within;
      longest = record {
        ends = ends_within (s ++ letter ∷ []) (l ++ letter ∷ []) t (ends_push s l letter falls) step.longest.ends;
        longest = ends_cases words are s letter t
            (λ other within by.
            elim (ends_shorter s (word words by.parent) by.ends) [
              | inl same ↦
                  absurd (none other (record { within = within; spelled = by.spelled ∙ ap (λ (w : List ℕ). w ++ letter ∷ []) same }))
              | inr shorter ↦
                  step.longest.longest other within
                  (ends_spelled l (word words by.parent) (word words other) letter by.spelled (is.longest.longest by.parent by.within shorter))
            ]);
      };
    }

-- state 0 stays, where it has no child
pub step_root : (words : List (List ℕ)) → AreWords words → (letter : ℕ) → IsNoChild words 0 letter → IsStep words 0 letter 0
step_root words are letter none =
    let s : List ℕ = word words 0 in
    record {
      within = are.some;
      longest = record {
        ends = ends_root words are (s ++ letter ∷ []);
        longest = ends_cases words are s letter s
            (λ other within by.
            let P : List ℕ → Type 0 = λ w. EndsWith w (word words by.parent) in
            let empty : word words by.parent ≡ [] = ends_of_nil (word words by.parent) (subst P are.root by.ends) in
            absurd (none other (record { within = within; spelled = by.spelled ∙ ap (λ (w : List ℕ). w ++ letter ∷ []) (empty ∙ sym are.root) })));
      };
    }

-- only state 0 has the empty word
pub some_length : (words : List (List ℕ)) → AreWords words → (state : ℕ) → 0 < state → state < length words
    → 1 ≤ length (word words state)
some_length words are state some within =
    let longer : IsLonger words state = are.longer state some within in
    omega (arith, ap length longer.spelled, length_push (word words longer.parent) longer.letter)

-- the link's word is shorter
pub link_shorter : (words : List (List ℕ)) → AreWords words → (state link : ℕ) → 0 < state → state < length words
    → IsLink words state link → length (word words link) < length (word words state)
link_shorter words are state link some within is =
    omega (arith, some_length words are state some within, ends_length (drop 1 (word words state)) (word words link) is.longest.ends, length-drop 1 (word words state))

depth_by : (bound : ℕ) (words : List (List ℕ)) → AreWords words → (state : ℕ) → state < bound → state < length words
    → length (word words state) ≤ state
depth_by zero words are state below within = absurd (omega arith)
depth_by (suc bound) words are state below within =
    elim (cases_lt 0 state) [
      | inl some ↦
          let longer : IsLonger words state = are.longer state some within in
          let earlier : longer.parent < state = longer.earlier in
          omega (arith, ap length longer.spelled, length_push (word words longer.parent) longer.letter, depth_by bound words are longer.parent (omega arith) (omega arith))
      | inr none ↦
          let root : state ≡ 0 = omega arith in
          omega (arith, ap length (ap (word words) root ∙ are.root))
    ]

-- no word is longer than the number of its state
pub depth_below : (words : List (List ℕ)) → AreWords words → (state : ℕ) → state < length words → length (word words state) ≤ state
depth_below words are state within = depth_by (state + 1) words are state (omega arith) within

-- without its first letter, a state's word with a letter more
pub drop_push : (w : List ℕ) (x : ℕ) → 1 ≤ length w → drop 1 (w ++ x ∷ []) ≡ drop 1 w ++ x ∷ []
drop_push w x long = drop-append-le 1 w (x ∷ []) long

-- a step and a link, where the words are known by equations
pub step_by : (words : List (List ℕ)) (state letter after : ℕ) (w u : List ℕ) → after < length words → word words state ≡ w
    → word words after ≡ u → IsLongestSuffix words (w ++ letter ∷ []) u → IsStep words state letter after
step_by words state letter after w u within is_w is_u longest =
    let P : List ℕ → Type 0 = λ v. IsLongestSuffix words (v ++ letter ∷ []) u in
    let Q : List ℕ → Type 0 = λ v. IsLongestSuffix words (word words state ++ letter ∷ []) v in
    record { within = within; longest = subst Q (sym is_u) (subst P (sym is_w) longest) }

pub link_by : (words : List (List ℕ)) (state link : ℕ) (w u : List ℕ) → link < length words → word words state ≡ w
    → word words link ≡ u → IsLongestSuffix words (drop 1 w) u → IsLink words state link
link_by words state link w u within is_w is_u longest =
    let P : List ℕ → Type 0 = λ v. IsLongestSuffix words (drop 1 v) u in
    let Q : List ℕ → Type 0 = λ v. IsLongestSuffix words (drop 1 (word words state)) v in
    record { within = within; longest = subst Q (sym is_u) (subst P (sym is_w) longest) }

-- of the empty word alone
pub links_root : AreWords ([] ∷ []) → IsLink ([] ∷ []) 0 0
links_root are = record { within = omega arith; longest = record { ends = ends_all []; longest = λ state within ends. ends } }

-- the step of state 0
pub step_at_root : (words : List (List ℕ)) → AreWords words → (letter : ℕ) (child : Option ℕ) → IfSome child (IsChild words 0 letter)
    → IfNone child (IsNoChild words 0 letter) → IsStep words 0 letter (unwrap_or child 0)
step_at_root words are letter (Some child) some none = step_child words 0 letter child some
step_at_root words are letter None some none = step_root words are letter none
