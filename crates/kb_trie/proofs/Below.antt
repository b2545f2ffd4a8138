-- The states below others in the trie, level by level.
use Rattle.std.proofs.Common.{◌≡◌, ℕ, zero, suc, ◌+◌, ◌-◌, ◌<◌, ◌≤◌, List, [], ◌∷◌, ◌++◌, length, get_or, drop, refl, sym, ap, ◌∙◌, subst, inl, inr, arith, append_assoc, length-append}
use Rattle.std.specs.List.{All, Contains}
use Rattle.std.proofs.lemmas.Bool.{cases_lt}
use Rattle.std.proofs.lemmas.List.{append-nil, get_or_append_left, get_or-append_right, get_or_default}
use Rattle.std.proofs.lemmas.List.Elements.{All-contains, Contains-append_left, Contains-append_right, Contains-append_cases, Contains-get_or}
use Rattle.kb_trie.specs.States.{AreWords, BeginsWith, HasWord, IsLonger, word}
use Rattle.kb_trie.specs.Adding.{Adds}
use Rattle.kb_trie.specs.Children.{AreBelow, IsBelowOne, IsChildOfOne, IsTrieChild}
use Rattle.kb_trie.specs.Walks.{AreDeep}
use Rattle.kb_trie.proofs.Adding.{adds_none, adds_then}
use Rattle.kb_trie.proofs.ChildLists.{child_longer}
use Rattle.kb_trie.proofs.Longest.{depth_below}

-- what begins a word with a letter more, and isn't all of it, begins the word
pub front : (u v w : List ℕ) (x y : ℕ) → u ++ x ∷ [] ≡ v ++ (y ∷ w) → BeginsWith u v
front u [] w x y same = record { rest = u; whole = refl }
front [] (a ∷ v) w x y same =
    absurd (let no : ⊥ = omega (arith, ap length same, length-append (a ∷ v) (y ∷ w)) in no)
front (b ∷ u) (a ∷ v) w x y same =
    let inner : BeginsWith u v = front u v w x y (ap (drop 1) same) in
    let heads : b ≡ a = ap (λ (l : List ℕ). get_or l 0 0) same in
    record {
      rest = inner.rest;
      whole = ap (λ (c : ℕ). c ∷ u) heads ∙ ap (λ (l : List ℕ). a ∷ l) inner.whole;
    }

down_by : (bound : ℕ) (words : List (List ℕ)) → AreWords words → (P : ℕ → Type 0) (u : List ℕ)
    → ((state : ℕ) → HasWord words u state → P state) → ((parent state : ℕ) → P parent → IsTrieChild words parent state → P state)
    → (state : ℕ) (rest : List ℕ) → state < bound → state < length words → word words state ≡ u ++ rest → P state
down_by zero words are P u at more state rest below within whole = absurd (let no : ⊥ = omega arith in no)
down_by (suc bound) words are P u at more state [] below within whole =
    at state (record { within = within; is = whole ∙ append-nil u })
down_by (suc bound) words are P u at more state (y ∷ rest) below within whole =
    elim (cases_lt 0 state) [
      | inr none ↦
          let root : state ≡ 0 = omega arith in
          absurd (let no : ⊥ = omega (arith, ap length (sym (ap (word words) root ∙ are.root) ∙ whole), length-append u (y ∷ rest)) in no)
      | inl some ↦
          let longer : IsLonger words state = are.longer state some within in
          let earlier : longer.parent < state = longer.earlier in
          let begins : BeginsWith (word words longer.parent) u =
          front (word words longer.parent) u rest longer.letter y (sym longer.spelled ∙ whole) in
          more longer.parent state
          (down_by bound words are P u at more longer.parent begins.rest (omega arith) (omega arith) begins.whole)
          (record { letter = longer.letter; child = record { within = within; spelled = longer.spelled } })
    ]

-- what is true of the state of a word, and with each state of its children, is true of all states whose words begin with it
pub down : (words : List (List ℕ)) → AreWords words → (P : ℕ → Type 0) (u : List ℕ) → ((state : ℕ) → HasWord words u state → P state)
    → ((parent state : ℕ) → P parent → IsTrieChild words parent state → P state)
    → (state : ℕ) (rest : List ℕ) → state < length words → word words state ≡ u ++ rest → P state
down words are P u at more state rest within whole = down_by (state + 1) words are P u at more state rest (omega arith) within whole

-- what begins a state's word is a state's word
pub beginning : (words : List (List ℕ)) → AreWords words → (u : List ℕ) (state : ℕ) (rest : List ℕ) → state < length words
    → word words state ≡ u ++ rest → (first : ℕ) × HasWord words u first
beginning words are u state rest within whole =
    down words are (λ other. (first : ℕ) × HasWord words u first) u (λ first has. (first, has)) (λ parent other found child. found) state rest within
    whole

-- A walk down the trie from the states of a list: it has looked at all children of the states at the first places, as
-- many as are done.
pub record IsDescending (words : List (List ℕ)) (roots : List ℕ) (done : ℕ) (states : List ℕ) : Type 0 where
  pub starts : (state : ℕ) → Contains roots state → Contains states state
  pub each : (state : ℕ) → Contains states state → IsBelowOne words roots state
  pub all : (place state : ℕ) → place < done → IsTrieChild words (get_or states place 0) state → Contains states state

pub descending_first : (words : List (List ℕ)) (roots : List ℕ) → All (λ state. state < length words) roots
    → IsDescending words roots 0 roots
descending_first words roots states =
    record {
      starts = λ state is. is;
      each = λ state is. record {
        within = All-contains (λ (s : ℕ). s < length words) roots state states is;
        root = state;
        among = is;
        begins = record { rest = []; whole = sym (append-nil (word words state)) };
      };
      all = λ place state below child. absurd (let no : ⊥ = omega arith in no);
    }

-- a child of a state below one of the list's
below_child : (words : List (List ℕ)) (roots : List ℕ) (parent state : ℕ) → IsBelowOne words roots parent → IsTrieChild words parent state
    → IsBelowOne words roots state
below_child words roots parent state below is =
    record {
      within = is.child.within;
      root = below.root;
      among = below.among;
      begins = record {
        rest = below.begins.rest ++ is.letter ∷ [];
        whole =
            is.child.spelled ∙ ap (λ (w : List ℕ). w ++ is.letter ∷ []) below.begins.whole
            ∙ append_assoc (word words below.root) below.begins.rest (is.letter ∷ []);
      };
    }

-- a level more
pub descending_more : (words : List (List ℕ)) (roots : List ℕ) (start end : ℕ) (states states' : List ℕ) → end ≡ length states
    → IsDescending words roots start states → Adds (IsChildOfOne words states start end) states states'
    → IsDescending words roots end states'
descending_more words roots start end states states' counted walk adds =
    let C : ℕ → List ℕ → Type 0 = λ state list. Contains list state in
    let up : (state : ℕ) → Contains states state → Contains states' state = λ state is.
    subst (C state) (sym adds.whole) (Contains-append_left states adds.more state is) in
    let gained : (state : ℕ) → Contains adds.more state → Contains states' state = λ state is.
    subst (C state) (sym adds.whole) (Contains-append_right states adds.more state is) in
    record {
      starts = λ state is. up state (walk.starts state is);
      each = λ state is.
          elim (Contains-append_cases states adds.more state (subst (C state) adds.whole is)) [
            | inl old ↦ walk.each state old
            | inr new ↦
                let one : IsChildOfOne words states start end state = adds.each state new in
                let low : one.place < length states = omega (arith, one.upto) in
                below_child words roots (get_or states one.place 0) state
                (walk.each (get_or states one.place 0) (Contains-get_or states one.place 0 low)) one.child
          ];
      all = λ place state below child.
          let within : place < length states = omega arith in
          let P : ℕ → Type 0 = λ p. IsTrieChild words p state in
          let kept : get_or states' place 0 ≡ get_or states place 0 =
          ap (λ (l : List ℕ). get_or l place 0) adds.whole ∙ get_or_append_left states adds.more 0 place within in
          let child' : IsTrieChild words (get_or states place 0) state = subst P kept child in
          elim (cases_lt place start) [
            | inl early ↦ up state (walk.all place state early child')
            | inr late ↦ gained state (adds.all state (record { place = place; from = late; upto = below; child = child' }))
          ];
    }

-- the words of the children are longer
pub deep_below : (words : List (List ℕ)) (level start end : ℕ) (states states' : List ℕ) → end ≡ length states → AreDeep words level start states
    → Adds (IsChildOfOne words states start end) states states' → AreDeep words (level + 1) end states'
deep_below words level start end states states' counted deep adds place from within =
    let new : ℕ = place - length states in
    let long : length states' ≡ length states + length adds.more = ap length adds.whole ∙ length-append states adds.more in
    let low : new < length adds.more = omega arith in
    let value : get_or states' place 0 ≡ get_or adds.more new 0 =
    ap (λ (l : List ℕ). get_or l place 0) adds.whole ∙ get_or-append_right states adds.more (length states) place 0 refl (omega arith) in
    let one : IsChildOfOne words states start end (get_or adds.more new 0) =
    adds.each (get_or adds.more new 0) (Contains-get_or adds.more new 0 low) in
    let up : level ≤ length (word words (get_or states one.place 0)) = deep one.place one.from (omega (arith, one.upto)) in
    omega (arith, child_longer words (get_or states one.place 0) (get_or adds.more new 0) one.child, ap (λ (s : ℕ). length (word words s)) value)

contains_at : (states : List ℕ) (state : ℕ) (is : Contains states state) → get_or states is.0 0 ≡ state
contains_at states state is = get_or_default states is.0 0 state is.1 ∙ is.2

-- a walk that has come to its end has all states below
pub descended : (words : List (List ℕ)) → AreWords words → (roots states : List ℕ) → IsDescending words roots (length states) states
    → AreBelow words roots states
descended words are roots states walk =
    record {
      each = walk.each;
      all = λ state below.
          down words are (λ (s : ℕ). Contains states s) (word words below.root)
          (λ first has.
          let root_in : below.root < length words = (walk.each below.root (walk.starts below.root below.among)).within in
          let same : below.root ≡ first = are.apart below.root first root_in has.within (sym has.is) in
          let P : ℕ → Type 0 = λ s. Contains states s in
          subst P same (walk.starts below.root below.among))
          (λ parent other is child.
          let P : ℕ → Type 0 = λ p. IsTrieChild words p other in
          walk.all is.0 other is.1 (subst P (sym (contains_at states parent is)) child))
          state below.begins.rest below.within below.begins.whole;
    }

-- at a level as deep as there are states nothing is left
pub descending_ends : (words : List (List ℕ)) → AreWords words → (roots : List ℕ) (level start : ℕ) (states : List ℕ) → length words ≤ level
    → start ≤ length states → AreDeep words level start states → IsDescending words roots start states → AreBelow words roots states
descending_ends words are roots level start states deepest fits deep walk =
    elim (cases_lt start (length states)) [
      | inl more ↦
          let state : ℕ = get_or states start 0 in
          let is : IsBelowOne words roots state = walk.each state (Contains-get_or states start 0 more) in
          absurd (let no : ⊥ = omega (arith, depth_below words are state is.within, deep start (omega arith) more, is.within) in no)
      | inr done ↦
          let same : start ≡ length states = omega arith in
          let P : ℕ → Type 0 = λ n. IsDescending words roots n states in
          descended words are roots states (subst P same walk)
    ]

-- of the states at the places of a level: the first has no children yet, and each has its own
pub level_none : (words : List (List ℕ)) (states : List ℕ) (start : ℕ) (xs : List ℕ) → Adds (IsChildOfOne words states start start) xs xs
level_none words states start xs =
    adds_none (IsChildOfOne words states start start) xs (λ number one. omega (arith, one.from, one.upto))

pub level_more : (words : List (List ℕ)) (states : List ℕ) (start place parent : ℕ) (xs ys zs : List ℕ) → start ≤ place
    → parent ≡ get_or states place 0 → Adds (IsChildOfOne words states start place) xs ys → Adds (IsTrieChild words parent) ys zs
    → Adds (IsChildOfOne words states start (place + 1)) xs zs
level_more words states start place parent xs ys zs from is first second =
    adds_then (IsChildOfOne words states start place) (IsTrieChild words parent) (IsChildOfOne words states start (place + 1)) xs ys zs first second
    (λ number one. record { place = one.place; from = one.from; upto = let upto = one.upto in omega arith; child = one.child })
    (λ number child.
    let P : ℕ → Type 0 = λ p. IsTrieChild words p number in
    record { place = place; from = from; upto = omega arith; child = subst P is child })
    (λ number one.
    elim (cases_lt one.place place) [
      | inl early ↦ inl (record { place = one.place; from = one.from; upto = early; child = one.child })
      | inr late ↦
          let upto : one.place < place + 1 = one.upto in
          let same : one.place ≡ place = omega arith in
          let P : ℕ → Type 0 = λ p. IsTrieChild words p number in
          inr (subst P (ap (λ (k : ℕ). get_or states k 0) same ∙ sym is) one.child)
    ])
