-- What is known of each state, with a state more.
use Rattle.std.proofs.Common.{◌≡◌, ℕ, ◌+◌, ◌-◌, ◌*◌, ◌<◌, ◌≤◌, List, [], ◌∷◌, ◌++◌, length, get_or, set, sym, ap, ◌∙◌, subst, inl, inr, arith, length-set}
use Rattle.std.proofs.Math.Nat.{mul_comm}
use Rattle.std.proofs.lemmas.Nat.{mul-add-lt}
use Rattle.std.proofs.lemmas.List.{get_or-set_same, get_or-set_other, length_push}
use Rattle.std.proofs.lemmas.Bool.{cases_lt}
use Rattle.kb_trie.specs.States.{AreWords, IsChild, IsNoChild, word}
use Rattle.kb_trie.specs.Steps.{AreLinks, AreSteps, IsStep}
use Rattle.kb_trie.specs.Tries.{AreDepths}
use Rattle.kb_trie.specs.Walks.{IsAmong, IsChildWalk, IsNoted}
use Rattle.kb_trie.proofs.Growing.{Comes, HasChild, links_grow, next_word, steps_grow}
use Rattle.kb_trie.proofs.Words.{word_old, word_new, old_or_new}

-- the row of a state fits
pub row_fits : (state count width room : ℕ) → state < count → count * width ≤ room → state * width + width ≤ room
row_fits state count width room within fits =
    elim (cases_lt 0 width) [
      | inl some ↦
          let last : width - 1 < width = omega arith in
          omega (arith, mul-add-lt state width (width - 1) count within last, mul_comm width count)
      | inr none ↦
          let zero : width ≡ 0 = omega arith in
          let P : ℕ → Type 0 = λ w. state * w + w ≤ room in
          subst P (sym zero) (omega arith)
    ]

-- a child isn't state 0
pub child_some : (words : List (List ℕ)) → AreWords words → (state letter child : ℕ) → IsChild words state letter child → 0 < child
child_some words are state letter child is =
    elim (cases_lt 0 child) [
      | inl some ↦ some
      | inr none ↦
          let zero : child ≡ 0 = omega arith in
          absurd (omega (arith, ap length (sym are.root ∙ sym (ap (word words) zero) ∙ is.spelled), length_push (word words state) letter))
    ]

-- what the walk noted is a state, but not state 0
pub noted_state : (words : List (List ℕ)) (links : List ℕ) (root letter : ℕ) (free children : List ℕ) → AreWords words
    → IsChildWalk words links root letter free children → (child : ℕ) → IsAmong children child → (0 < child) × (child < length words)
noted_state words links root letter free children are walk child among =
    let each = walk.walk.stopped_each child among in
    let noted : IsNoted (length words) links (HasChild words letter) each.0 child = each.2 in
    let is : IsChild words noted.state letter child = noted.note in
    (child_some words are noted.state letter child is, is.within)

pub comes : (words : List (List ℕ)) (links : List ℕ) (root letter : ℕ) (free children : List ℕ) → AreWords words → AreLinks words links
    → root < length words → IsNoChild words root letter → IsChildWalk words links root letter free children
    → Comes words links root letter free children
comes words links root letter free children are linked within none walk =
    record { are = are; links_are = linked; within = within; none = none; walk = walk.walk }

-- the links, when the new state has its own and the children that the walk noted have the new state
pub links_connected : (words : List (List ℕ)) (links links' : List ℕ) (root letter after : ℕ) (free children : List ℕ)
    → Comes words links root letter free children → IsStep words root letter after → length words < length links
    → ((state : ℕ) → IsAmong children state → get_or links' state 0 ≡ length words)
    → ((state : ℕ) → (IsAmong children state → ⊥) → get_or links' state 0 ≡ get_or (set links (length words) after) state 0)
    → AreLinks (words ++ (word words root ++ letter ∷ []) ∷ []) links'
links_connected words links links' root letter after free children comes step room moved others =
    links_grow words links links' root letter after free children comes step moved
    (λ state within other. others state other ∙ get_or-set_other links (length words) state after 0 (λ same. omega arith))
    (others (length words) (λ among.
    let each = comes.walk.stopped_each (length words) among in
    let noted : IsNoted (length words) links (HasChild words letter) each.0 (length words) = each.2 in
    let is : IsChild words noted.state letter (length words) = noted.note in
    omega (arith, is.within))
    ∙ get_or-set_same links (length words) after 0 room)

-- the lengths of the words, with the new state's
pub depths_connected : (words : List (List ℕ)) (depths : List ℕ) (root letter depth : ℕ) → AreDepths words depths → root < length words
    → length words < length depths → depth ≡ get_or depths root 0 + 1
    → AreDepths (words ++ (word words root ++ letter ∷ []) ∷ []) (set depths (length words) depth)
depths_connected words depths root letter depth are within room is =
    let next : List ℕ = next_word words root letter in
    record {
      room = omega (arith, length_push words next, length-set depths (length words) depth);
      each = λ state in_all.
          elim (old_or_new words next state in_all) [
            | inl old ↦
                get_or-set_other depths (length words) state depth 0 (λ same. omega arith) ∙ are.each state old
                ∙ ap length (sym (word_old words next state old))
            | inr new ↦
                let value : get_or (set depths (length words) depth) state 0 ≡ depth =
                ap (λ (s : ℕ). get_or (set depths (length words) depth) s 0) (sym new) ∙ get_or-set_same depths (length words) depth 0 room in
                let long : length (word (words ++ next ∷ []) state) ≡ length (word words root) + 1 =
                ap length (word_new words next state new) ∙ length_push (word words root) letter in
                value ∙ is ∙ ap (λ (n : ℕ). n + 1) (are.each root within) ∙ sym long
          ];
    }

-- the table: the free states have the step by the letter to the new state, and the new state has the row of its link
pub rows_connected : (words : List (List ℕ)) (links : List ℕ) (root letter after width : ℕ) (rows rows' rows'' free free' children : List ℕ)
    (count width' width'' : ℕ) → Comes words links root letter free children → IsStep words root letter after → AreSteps words width rows
    → count ≡ length words → free' ≡ free → width' ≡ width → width'' ≡ width' → length rows' ≡ length rows → length rows'' ≡ length rows'
    → (count + 1) * width ≤ length rows
    → ((state : ℕ) → IsAmong free' state → letter < width' → get_or rows' (state * width' + letter) 0 ≡ count)
    → ((state x : ℕ) → x < width' → (IsAmong free' state → x ≡ letter → ⊥)
    → get_or rows' (state * width' + x) 0 ≡ get_or rows (state * width' + x) 0)
    → ((x : ℕ) → x < width'' → get_or rows'' (count * width'' + x) 0 ≡ get_or rows' (after * width'' + x) 0)
    → ((state x : ℕ) → state < count → x < width'' → get_or rows'' (state * width'' + x) 0 ≡ get_or rows' (state * width'' + x) 0)
    → AreSteps (words ++ (word words root ++ letter ∷ []) ∷ []) width'' rows''
rows_connected words links root letter after width rows rows' rows'' free free' children count width' width'' comes step are counted is_free one two long' long'' room led others copied same =
    let A : List ℕ → ℕ → ℕ → Type 0 = λ f w n. (state : ℕ) → IsAmong f state → letter < w → get_or rows' (state * w + letter) 0 ≡ n in
    let B : List ℕ → ℕ → Type 0 = λ f w. (state x : ℕ) → x < w → (IsAmong f state → x ≡ letter → ⊥)
    → get_or rows' (state * w + x) 0 ≡ get_or rows (state * w + x) 0 in
    let C : ℕ → Type 0 = λ n. (x : ℕ) → x < width'' → get_or rows'' (n * width'' + x) 0 ≡ get_or rows' (after * width'' + x) 0 in
    let D : ℕ → Type 0 = λ n. (state x : ℕ) → state < n → x < width'' → get_or rows'' (state * width'' + x) 0 ≡ get_or rows' (state * width'' + x) 0 in
    let E : ℕ → ℕ → Type 0 = λ n w. (n + 1) * w ≤ length rows in
    let F : ℕ → Type 0 = λ w. AreSteps words w rows in
    let whole : width ≡ width'' = sym (two ∙ one) in
    let led' : A free width'' (length words) =
    subst (λ (f : List ℕ). A f width'' (length words)) is_free
    (subst (λ (n : ℕ). A free' width'' n) counted (subst (λ (w : ℕ). A free' w count) (sym two) led)) in
    let others' : B free width'' = subst (λ (f : List ℕ). B f width'') is_free (subst (λ (w : ℕ). B free' w) (sym two) others) in
    let fits : E (length words) width'' = subst (λ (n : ℕ). E n width'') counted (subst (λ (w : ℕ). E count w) whole room) in
    steps_grow words links root letter after width'' rows rows' rows'' free children comes step (subst F whole are) led'
    (λ state x within column apart. others' state x column apart) (subst C counted copied) (subst D counted same)
    (omega (arith, long', long''))
