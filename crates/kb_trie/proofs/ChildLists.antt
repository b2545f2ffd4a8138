-- The lists of children, with a state more, and from their first child to the last.
use Rattle.std.proofs.Common.{◌≡◌, ℕ, ◌+◌, ◌<◌, ◌≤◌, List, [], ◌∷◌, ◌++◌, length, get_or, set, refl, sym, ap, ◌∙◌, subst, inl, inr, arith, length-set}
use Rattle.std.proofs.lemmas.List.{get_or-set_same, get_or-set_other, length_push, same_from_push}
use Rattle.std.proofs.lemmas.Bool.{cases_lt, cases_eq, cases_order}
use Rattle.kb_trie.specs.declared.children.Children.{Children}
use Rattle.kb_trie.specs.States.{AreWords, IsNoChild, word}
use Rattle.kb_trie.specs.Adding.{Adds, IsThis}
use Rattle.kb_trie.specs.Children.{AreChildren, HasChildren, IsLastChild, IsTrieChild}
use Rattle.kb_trie.proofs.Adding.{adds_none, adds_same, adds_then}
use Rattle.kb_trie.proofs.Connecting.{child_some}
use Rattle.kb_trie.proofs.Growing.{grown, leaf_none}
use Rattle.kb_trie.proofs.Words.{word_old, word_new, old_or_new}

-- a child's word is a letter longer
pub child_longer : (words : List (List ℕ)) (parent state : ℕ) → IsTrieChild words parent state
    → length (word words state) ≡ length (word words parent) + 1
child_longer words parent state is = ap length is.child.spelled ∙ length_push (word words parent) is.letter

-- a state has one parent
pub one_parent : (words : List (List ℕ)) → AreWords words → (one other state : ℕ) → one < length words → other < length words
    → IsTrieChild words one state → IsTrieChild words other state → one ≡ other
one_parent words are one other state in_one in_other first second =
    let both = same_from_push (word words one) (word words other) first.letter second.letter
    (sym first.child.spelled ∙ second.child.spelled) in
    are.apart one other in_one in_other both.0

-- a child, with a state more
child_up : (words : List (List ℕ)) (next : List ℕ) (parent state : ℕ) → parent < length words → IsTrieChild words parent state
    → IsTrieChild (words ++ next ∷ []) parent state
child_up words next parent state within is =
    record {
      letter = is.letter;
      child = record {
        within = omega (arith, is.child.within, length_push words next);
        spelled =
            word_old words next state is.child.within ∙ is.child.spelled
            ∙ ap (λ (w : List ℕ). w ++ is.letter ∷ []) (sym (word_old words next parent within));
      };
    }

child_down : (words : List (List ℕ)) (next : List ℕ) (parent state : ℕ) → parent < length words → state < length words
    → IsTrieChild (words ++ next ∷ []) parent state → IsTrieChild words parent state
child_down words next parent state within in_state is =
    record {
      letter = is.letter;
      child = record {
        within = in_state;
        spelled =
            sym (word_old words next state in_state) ∙ is.child.spelled
            ∙ ap (λ (w : List ℕ). w ++ is.letter ∷ []) (word_old words next parent within);
      };
    }

-- the new state's parent
parent_new : (words : List (List ℕ)) → AreWords words → (root letter parent : ℕ) → root < length words → parent < length words
    → IsTrieChild (grown words root letter) parent (length words) → parent ≡ root
parent_new words are root letter parent in_root within is =
    let next : List ℕ = word words root ++ letter ∷ [] in
    let both = same_from_push (word words parent) (word words root) is.letter letter
    (ap (λ (w : List ℕ). w ++ is.letter ∷ []) (sym (word_old words next parent within)) ∙ sym is.child.spelled
    ∙ word_new words next (length words) refl) in
    are.apart parent root within in_root both.0

-- the new state has no children
new_leaf : (words : List (List ℕ)) → AreWords words → (root letter state : ℕ) → root < length words → IsNoChild words root letter
    → IsTrieChild (grown words root letter) (length words) state → ⊥
new_leaf words are root letter state within none is = leaf_none words are root letter is.letter within none state is.child

-- the last child of a state, where the new state is none of its children
last_kept : (words : List (List ℕ)) (next : List ℕ) (state bound bound' child : ℕ) → state < length words → bound ≤ bound'
    → bound ≤ length words
    → ((other : ℕ) → other < bound' → IsTrieChild (words ++ next ∷ []) state other → other < bound)
    → IsLastChild words state bound child → IsLastChild (words ++ next ∷ []) state bound' child
last_kept words next state bound bound' child within longer fits inside is =
    record {
      before = λ some. omega (arith, is.before some);
      is = λ some. child_up words next state child within (is.is some);
      last = λ other below there.
          let old : other < bound = inside other below there in
          is.last other old (child_down words next state other within (omega arith) there);
    }

-- the new state is the last child of its parent
last_new : (words : List (List ℕ)) (root letter : ℕ) → root < length words
    → IsLastChild (grown words root letter) root (length (grown words root letter)) (length words)
last_new words root letter within =
    let next : List ℕ = word words root ++ letter ∷ [] in
    record {
      before = λ some. omega (arith, length_push words next);
      is = λ some. record {
        letter = letter;
        child = record {
          within = omega (arith, length_push words next);
          spelled =
              word_new words next (length words) refl
              ∙ ap (λ (w : List ℕ). w ++ letter ∷ []) (sym (word_old words next root within));
        };
      };
      last = λ other below there. omega (arith, length_push words next);
    }

-- no child, where there is none
last_none : (words : List (List ℕ)) (state bound : ℕ) → ((other : ℕ) → ¬ IsTrieChild words state other) → IsLastChild words state bound 0
last_none words state bound none =
    record {
      before = λ some. absurd (let no : ⊥ = omega arith in no);
      is = λ some. absurd (let no : ⊥ = omega arith in no);
      last = λ other below there. absurd (none other there);
    }

lasts_grow : (words : List (List ℕ)) → AreWords words → (root letter : ℕ) (lasts : List ℕ) → root < length words → IsNoChild words root letter
    → length words < length lasts
    → ((state : ℕ) → state < length words → IsLastChild words state (length words) (get_or lasts state 0))
    → (state : ℕ) → state < length (grown words root letter)
    → IsLastChild (grown words root letter) state (length (grown words root letter))
    (get_or (set (set lasts (length words) 0) root (length words)) state 0)
lasts_grow words are root letter lasts in_root none room each state in_all =
    let n : ℕ = length words in
    let next : List ℕ = word words root ++ letter ∷ [] in
    let L : ℕ → Type 0 = λ c. IsLastChild (words ++ (word words root ++ letter ∷ []) ∷ []) state (length (words ++ (word words root ++ letter ∷ []) ∷ [])) c in
    elim (cases_eq state root) [
      | inl same ↦
          let value : get_or (set (set lasts (length words) 0) root (length words)) state 0 ≡ length words =
          ap (λ (s : ℕ). get_or (set (set lasts (length words) 0) root (length words)) s 0) same
          ∙ get_or-set_same (set lasts n 0) root n 0 (omega (arith, length-set lasts n 0)) in
          let M : ℕ → Type 0 = λ s. IsLastChild (words ++ (word words root ++ letter ∷ []) ∷ []) s (length (words ++ (word words root ++ letter ∷ []) ∷ [])) (length words) in
          subst L (sym value) (subst M (sym same) (last_new words root letter in_root))
      | inr apart ↦
          let C : ℕ → ℕ → Type 0 = λ p s. IsTrieChild (words ++ (word words root ++ letter ∷ []) ∷ []) p s in
          elim (old_or_new words next state in_all) [
            | inl old ↦
                let value : get_or (set (set lasts (length words) 0) root (length words)) state 0 ≡ get_or lasts state 0 =
                get_or-set_other (set lasts n 0) root state n 0 apart ∙ get_or-set_other lasts n state 0 0 (λ same. omega arith) in
                subst L (sym value)
                (last_kept words next state n (length (grown words root letter)) (get_or lasts state 0) old
                (omega (arith, length_push words next)) (omega arith)
                (λ other below there.
                elim (old_or_new words next other below) [
                  | inl earlier ↦ earlier
                  | inr new ↦ absurd (apart (parent_new words are root letter state in_root old (subst (λ (s : ℕ). C state s) (sym new) there)))
                ]) (each state old))
            | inr new ↦
                let value : get_or (set (set lasts (length words) 0) root (length words)) state 0 ≡ 0 =
                get_or-set_other (set lasts n 0) root state n 0 apart ∙ ap (λ (s : ℕ). get_or (set lasts (length words) 0) s 0) (sym new)
                ∙ get_or-set_same lasts n 0 0 room in
                subst L (sym value)
                (last_none (grown words root letter) state (length (grown words root letter))
                (λ other there. new_leaf words are root letter other in_root none (subst (λ (s : ℕ). C s other) (sym new) there)))
          ]
    ]

earlier_grow : (words : List (List ℕ)) → AreWords words → (root letter : ℕ) (lasts earlier : List ℕ) → root < length words
    → IsNoChild words root letter → AreChildren words lasts earlier → length words < length earlier
    → (parent state : ℕ) → parent < length (grown words root letter) → IsTrieChild (grown words root letter) parent state
    → IsLastChild (grown words root letter) parent state (get_or (set earlier (length words) (get_or lasts root 0)) state 0)
earlier_grow words are root letter lasts earlier in_root none children room parent state in_all is =
    let n : ℕ = length words in
    let next : List ℕ = word words root ++ letter ∷ [] in
    let last : ℕ = get_or lasts root 0 in
    let C : ℕ → ℕ → Type 0 = λ p s. IsTrieChild (words ++ (word words root ++ letter ∷ []) ∷ []) p s in
    let L : ℕ → Type 0 = λ c. IsLastChild (words ++ (word words root ++ letter ∷ []) ∷ []) parent state c in
    elim (old_or_new words next parent in_all) [
      | inr new ↦ absurd (new_leaf words are root letter state in_root none (subst (λ (p : ℕ). C p state) (sym new) is))
      | inl old ↦
          elim (old_or_new words next state is.child.within) [
            | inl before ↦
                let value : get_or (set earlier (length words) (get_or lasts root 0)) state 0 ≡ get_or earlier state 0 =
                get_or-set_other earlier n state last 0 (λ same. omega arith) in
                subst L (sym value)
                (last_kept words next parent state state (get_or earlier state 0) old (omega arith) (omega arith) (λ other below there. below)
                (children.next parent state old (child_down words next parent state old before is)))
            | inr new ↦
                let same : parent ≡ root = parent_new words are root letter parent in_root old (subst (λ (s : ℕ). C parent s) (sym new) is) in
                let value : get_or (set earlier (length words) (get_or lasts root 0)) state 0 ≡ get_or lasts root 0 =
                ap (λ (s : ℕ). get_or (set earlier (length words) (get_or lasts root 0)) s 0) (sym new) ∙ get_or-set_same earlier n last 0 room in
                let M : ℕ → Type 0 = λ p. IsLastChild (words ++ (word words root ++ letter ∷ []) ∷ []) p state (get_or lasts root 0) in
                let N : ℕ → Type 0 = λ s. IsLastChild (words ++ (word words root ++ letter ∷ []) ∷ []) root s (get_or lasts root 0) in
                subst L (sym value)
                (subst M (sym same)
                (subst N new
                (last_kept words next root n n last in_root (omega arith) (omega arith) (λ other below there. below) (children.last root in_root))))
          ]
    ]

-- a state more, with its parent's last child before it
pub children_added : (words words' : List (List ℕ)) → AreWords words → (root letter count : ℕ) (old new : Children) → words' ≡ grown words root letter
    → count ≡ length words → root < length words → IsNoChild words root letter → HasChildren words old → count < length old.lasts.items
    → count < length old.earlier.items → new.lasts.items ≡ set (set old.lasts.items count 0) root count
    → new.earlier.items ≡ set old.earlier.items count (get_or old.lasts.items root 0) → HasChildren words' new
children_added words words' are root letter count old new grows counted in_root none has last_room earlier_room lasts_is earlier_is =
    let n : ℕ = length words in
    let next : List ℕ = word words root ++ letter ∷ [] in
    let lasts : List ℕ = old.lasts.items in
    let earlier : List ℕ = old.earlier.items in
    let W : List (List ℕ) → Type 0 = λ ws. AreChildren ws new.lasts.items new.earlier.items in
    let A : List ℕ → Type 0 = λ l. AreChildren (words ++ (word words root ++ letter ∷ []) ∷ []) l new.earlier.items in
    let B : List ℕ → Type 0 = λ e. AreChildren (words ++ (word words root ++ letter ∷ []) ∷ [])
    (set (set old.lasts.items (length words) 0) root (length words)) e in
    let lasts_new : new.lasts.items ≡ set (set old.lasts.items (length words) 0) root (length words) =
    lasts_is ∙ ap (λ (k : ℕ). set (set old.lasts.items k 0) root k) counted in
    let earlier_new : new.earlier.items ≡ set old.earlier.items (length words) (get_or old.lasts.items root 0) =
    earlier_is ∙ ap (λ (k : ℕ). set old.earlier.items k (get_or old.lasts.items root 0)) counted in
    subst W (sym grows) (subst A (sym lasts_new) (subst B (sym earlier_new) (record {
      last_room = omega (arith, length_push words next, length-set (set lasts n 0) root n, length-set lasts n 0);
      earlier_room = omega (arith, length_push words next, length-set earlier n (get_or lasts root 0));
      last = lasts_grow words are root letter lasts in_root none (omega arith) has.last;
      next = earlier_grow words are root letter lasts earlier in_root none has (omega arith);
    })))

-- with room for more
pub children_same : (words : List (List ℕ)) (lasts earlier lasts' earlier' : List ℕ)
    → ((place : ℕ) → get_or lasts' place 0 ≡ get_or lasts place 0) → ((place : ℕ) → get_or earlier' place 0 ≡ get_or earlier place 0)
    → length lasts ≤ length lasts' → length earlier ≤ length earlier' → AreChildren words lasts earlier → AreChildren words lasts' earlier'
children_same words lasts earlier lasts' earlier' lasts_same earlier_same lasts_longer earlier_longer are =
    record {
      last_room = omega (arith, are.last_room);
      earlier_room = omega (arith, are.earlier_room);
      last = λ state within.
          let L : ℕ → Type 0 = λ c. IsLastChild words state (length words) c in
          subst L (sym (lasts_same state)) (are.last state within);
      next = λ parent state within is.
          let L : ℕ → Type 0 = λ c. IsLastChild words parent state c in
          subst L (sym (earlier_same state)) (are.next parent state within is);
    }

-- with other lists that are equal
pub children_copied : (words : List (List ℕ)) (old new : Children) → new.lasts.items ≡ old.lasts.items → new.earlier.items ≡ old.earlier.items
    → HasChildren words old → HasChildren words new
children_copied words old new lasts_is earlier_is has =
    let A : List ℕ → Type 0 = λ l. AreChildren words l new.earlier.items in
    let B : List ℕ → Type 0 = λ e. AreChildren words old.lasts.items e in
    subst A (sym lasts_is) (subst B (sym earlier_is) has)

-- among a state's children: such ones, later than this one
pub record IsLater (Such : ℕ → Type 0) (upto number : ℕ) : Type 0 where
  pub such : Such number
  pub later : upto < number

pub later_first : (words : List (List ℕ)) (parent first : ℕ) (Such : ℕ → Type 0) (xs : List ℕ)
    → ((number : ℕ) → Such number → IsTrieChild words parent number) → IsLastChild words parent (length words) first
    → Adds (IsLater Such first) xs xs
later_first words parent first Such xs children is =
    adds_none (IsLater Such first) xs (λ number more.
    let child : IsTrieChild words parent number = children number more.such in
    let upto : number ≤ first = is.last number child.child.within child in
    omega (arith, more.later))

-- a child more
pub later_more : (words : List (List ℕ)) (parent child next : ℕ) (Such : ℕ → Type 0) (xs ys zs : List ℕ)
    → ((number : ℕ) → Such number → IsTrieChild words parent number) → IsLastChild words parent child next → 0 < child
    → Adds (IsLater Such child) xs ys → Adds (IsThis child Such) ys zs → Adds (IsLater Such next) xs zs
later_more words parent child next Such xs ys zs children is some first second =
    let below : next < child = elim (cases_lt 0 next) [
      | inl positive ↦ is.before positive
      | inr zero ↦ omega arith
    ] in
    adds_then (IsLater Such child) (IsThis child Such) (IsLater Such next) xs ys zs first second
    (λ number more. record { such = more.such; later = let later = more.later in omega arith })
    (λ number this. record { such = this.such; later = let same = this.is in omega arith })
    (λ number more.
    elim (cases_order child number) [
      | inl same ↦ inr (record { is = sym same; such = more.such })
      | inr apart ↦ elim apart [
        | inl above ↦ inl (record { such = more.such; later = above })
        | inr under ↦
            let upto : number ≤ next = is.last number under (children number more.such) in
            let later : next < number = more.later in
            absurd (let no : ⊥ = omega arith in no)
      ]
    ])

-- all children
pub later_all : (words : List (List ℕ)) → AreWords words → (parent : ℕ) (Such : ℕ → Type 0) (xs ys : List ℕ)
    → ((number : ℕ) → Such number → IsTrieChild words parent number) → Adds (IsLater Such 0) xs ys → Adds Such xs ys
later_all words are parent Such xs ys children adds =
    adds_same (IsLater Such 0) Such xs ys (λ number more. more.such)
    (λ number such.
    let child : IsTrieChild words parent number = children number such in
    record { such = such; later = child_some words are parent child.letter number child.child }) adds
