-- Reading a word: the machine stands at the state of the word's longest suffix exactly where the word is irreducible.
use Rattle.std.proofs.Common.{◌≡◌, ◌≢◌, ◌↔◌, ℕ, ◌<◌, ◌≤◌, Bool, true, false, ◌&&◌, nat_lt, nat_le, if◌then◌else◌, List, [], ◌∷◌, ◌++◌, length, get_or, slice_get, Option, Some, None, refl, sym, ap, ◌∙◌, subst, inl, inr, arith, append_assoc, length-append}
use Rattle.std.proofs.lemmas.Bool.{cases_lt, and_parts, and_from, ltb-true, ltb-false, leb-true, lt-ltb, le-leb, true≢false}
use Rattle.std.proofs.lemmas.List.{append-nil, nil_from_length}
use Rattle.std.proofs.lemmas.List.Elements.{All-nil, All-push}
use Rattle.std.proofs.lemmas.Option.{slice_get-get_or, get_or_from_slice_get, slice_get_within}
use Rattle.kb_word.specs.Words.{Pair, OneOf, EndsWith}
use Rattle.kb_word.specs.Relations.{IsOver}
use Rattle.kb_word.specs.Rewriting.{AreDecreasing, IsIrreducible}
use Rattle.kb_word.specs.WordOrders.{Below}
use Rattle.kb_word.specs.declared.word_order.WordOrder.{WordOrder}
use Rattle.kb_word.specs.WordOrderLaws.{word_orders}
use Rattle.kb_rules.specs.Ending.{NoneEnds}
use Rattle.kb_rules.proofs.Exists.{nothing_below_empty}
use Rattle.kb_rules.proofs.Endings.{irreducible_more, irreducible_front}
use Rattle.kb_rules.proofs.Lists.{All-front, All-rest, empty_middle}
use Rattle.kb_explore.specs.Machine.{lead, leads, MachineAccepts}
use Rattle.kb_trie.specs.States.{States, word}
use Rattle.kb_trie.specs.Ends.{keeps}
use Rattle.kb_trie.proofs.Longest.{longest_more, longest_nil}
use Rattle.kb_wa.specs.Prefixes.{AreLeftSidesApart, AreLeftSidesOver}
use Rattle.kb_wa.specs.Tries.{IsLeft, IsTrieOf, left_at}
use Rattle.kb_wa.specs.Dictionary.{LeftSides, dictionary, may_move, state_after, unless_left_side}
use Rattle.kb_wa.proofs.States.{StandsFor, stands_after}

abbrev pub no_rule : Pair
no_rule = ([], [])

-- the left side at an index is the rule's
pub left_of : (rules : List Pair) (index : ℕ) (rule : Pair) → slice_get rules index ≡ Some rule → left_at rules index ≡ rule.0
left_of rules index rule at = ap (λ (r : Pair). r.0) (get_or_from_slice_get rules index rule no_rule at)

-- no left side is empty
abbrev pub HaveLefts : List Pair → Type 0
HaveLefts rules = (rule : Pair) → OneOf rules rule → rule.0 ≢ []

-- the left sides of rules that decrease are not empty
pub lefts_of : (order : WordOrder) (rules : List Pair) → AreDecreasing (Below order) rules → HaveLefts rules
lefts_of order rules decreasing rule one none =
    let P : List ℕ → Type 0 = λ w. Below order rule.1 w in
    nothing_below_empty (word_orders order) rule.1 (subst P none (decreasing rule one))

-- what the acceptor is made of
pub record IsDictionary (n : ℕ) (rules : List Pair) (trie : States) : Type 0 where
  pub is : IsTrieOf rules (length rules) trie
  pub lefts : HaveLefts rules
  pub over : AreLeftSidesOver n rules
  pub apart : AreLeftSidesApart rules

-- of these parts
pub dictionary_of : {n : ℕ} {rules list : List Pair} {trie : States} {sides : LeftSides} → list ≡ rules → HaveLefts rules
    → IsTrieOf list (length list) trie → AreLeftSidesOver n rules → AreLeftSidesApart rules → sides ≡ record { n = n; trie = trie }
    → IsDictionary sides.n rules sides.trie
dictionary_of {rules} {trie} same lefts is over apart parts =
    let P : List Pair → Type 0 = λ list. IsTrieOf list (length list) trie in
    let Q : LeftSides → Type 0 = λ sides. IsDictionary sides.n rules sides.trie in
    subst Q (sym parts) (record { is = subst P same is; lefts = lefts; over = over; apart = apart })

-- the word is irreducible, and the state that of its longest suffix
pub record IsRead (n : ℕ) (rules : List Pair) (trie : States) (w : List ℕ) (state : ℕ) : Type 0 where
  pub over : IsOver n w
  pub irreducible : IsIrreducible (OneOf rules) w
  pub stands : StandsFor trie.words w state

-- to where a word leads: an irreducible word to its state, and another one nowhere
pub data Outcome (n : ℕ) (rules : List Pair) (trie : States) (w : List ℕ) : Option ℕ → Type 0 where
  reads : {state : ℕ} → IsRead n rules trie w state → Outcome n rules trie w (Some state)
  fails : (IsOver n w → ¬ IsIrreducible (OneOf rules) w) → Outcome n rules trie w None

module _ {n : ℕ} {rules : List Pair} {trie : States} (given : IsDictionary n rules trie) where
  -- where the state of the longest suffix stands for a left side, that left side ends the word
  reducible_there : (w : List ℕ) (state : ℕ) → StandsFor trie.words w state → keeps trie.numbers state ≡ true → ¬ IsIrreducible (OneOf rules) w
  reducible_there w state stands left irreducible =
      let is : IsLeft rules (length rules) (word trie.words state) =
      given.is.only state (ltb-true 0 (get_or trie.numbers state 0) left) in
      let rule : Pair = get_or rules is.place no_rule in
      let ends : EndsWith w (word trie.words state) = stands.longest.ends in
      irreducible ends.0 rule [] (is.place, slice_get-get_or rules is.place no_rule is.within)
      (ends.1 ∙ ap (λ (u : List ℕ). ends.0 ++ u) (sym is.is) ∙ sym (append-nil (ends.0 ++ rule.0)))

  -- a left side that ends the state's word is that word
  same_left : (state index : ℕ) (rule : Pair) → 0 < state → state < length trie.words → slice_get rules index ≡ Some rule
      → EndsWith (word trie.words state) rule.0 → left_at rules index ≡ word trie.words state
  same_left state index rule some within at ends =
      let begins = given.is.beginnings state some within in
      let rest : List ℕ = begins.begins.rest in
      let other : Pair = get_or rules begins.place no_rule in
      let whole : other.0 ≡ ends.0 ++ rule.0 ++ rest = begins.begins.whole ∙ ap (λ (u : List ℕ). u ++ rest) ends.1 in
      let same : begins.place ≡ index =
      given.apart begins.place index other rule (slice_get-get_or rules begins.place no_rule begins.within) at
      (length ends.0, record { before = ends.0; after = rest; whole = whole; at = refl }) in
      let left : left_at rules index ≡ rule.0 = left_of rules index rule at in
      let long : rule.0 ≡ ends.0 ++ rule.0 ++ rest = sym left ∙ sym (ap (left_at rules) same) ∙ whole in
      let none : ends.0 ≡ [] =
      nil_from_length ends.0 (omega (arith, ap length long, length-append (ends.0 ++ rule.0) rest, length-append ends.0 rule.0)) in
      left ∙ sym (ends.1 ∙ ap (λ (u : List ℕ). u ++ rule.0) none)

  -- where it stands for none, no left side ends the word
  none_ends : (w : List ℕ) (state : ℕ) → StandsFor trie.words w state → keeps trie.numbers state ≡ false → NoneEnds rules w
  none_ends w state stands none rule one ends =
      let words : List (List ℕ) = trie.words in
      let index : ℕ = one.0 in
      let within : index < length rules = slice_get_within rules index rule one.1 in
      let left : left_at rules index ≡ rule.0 = left_of rules index rule one.1 in
      let own = given.is.complete index within in
      let P : List ℕ → Type 0 = λ u. EndsWith w u in
      let Q : List ℕ → Type 0 = λ u. EndsWith (word words state) u in
      let is : word words own.state ≡ rule.0 = own.has.is ∙ left in
      let inner : EndsWith (word words state) rule.0 =
      subst Q is (stands.longest.longest own.state own.has.within (subst P (sym is) ends)) in
      elim (cases_lt 0 state) [
        | inl some ↦
            let whole : left_at rules index ≡ word words state = same_left state index rule some stands.within one.1 inner in
            let same : own.state ≡ state = given.is.are.apart own.state state own.has.within stands.within (own.has.is ∙ whole) in
            let kept : 0 < get_or trie.numbers state 0 = subst (λ (s : ℕ). 0 < get_or trie.numbers s 0) same own.some in
            absurd (omega (arith, kept, ltb-false 0 (get_or trie.numbers state 0) none))
        | inr first ↦
            let root : state ≡ 0 = omega arith in
            let nil : [] ≡ inner.0 ++ rule.0 = sym given.is.are.root ∙ ap (word words) (sym root) ∙ inner.1 in
            absurd (given.lefts rule one (nil_from_length rule.0 (omega (arith, ap length nil, length-append inner.0 rule.0))))
      ]

  outcome_at : (front : List ℕ) (x state : ℕ) (test : Bool) → IsOver n (front ++ x ∷ []) → IsIrreducible (OneOf rules) front
      → StandsFor trie.words (front ++ x ∷ []) state → keeps trie.numbers state ≡ test
      → Outcome n rules trie (front ++ x ∷ []) (if test then None else Some state)
  outcome_at front x state true over irreducible stands left =
      fails (λ _ whole. reducible_there (front ++ x ∷ []) state stands left whole)
  outcome_at front x state false over irreducible stands none =
      reads (record {
        over = over;
        irreducible = irreducible_more rules front x irreducible (none_ends (front ++ x ∷ []) state stands none);
        stands = stands;
      })

  outcome_of : (front : List ℕ) (x state : ℕ) (test : Bool) → IsRead n rules trie front state → may_move n trie state x ≡ test
      → Outcome n rules trie (front ++ x ∷ [])
      (if test then unless_left_side trie (state_after trie.words (word trie.words state ++ x ∷ [])) else None)
  outcome_of front x state true read may =
      let words : List (List ℕ) = trie.words in
      let next : ℕ = state_after words (word words state ++ x ∷ []) in
      let letter = and_parts (nat_lt 0 x) (nat_le x n) (and_parts (nat_lt state (length words)) (nat_lt 0 x && nat_le x n) may).1 in
      let stands = stands_after words given.is.are (word words state ++ x ∷ []) in
      outcome_at front x next (keeps trie.numbers next)
      (All-push (λ (y : ℕ). (0 < y) × (y ≤ n)) front x read.over (ltb-true 0 x letter.0, leb-true x n letter.1)) read.irreducible
      (record {
        within = stands.within;
        longest = longest_more words given.is.are front (word words state) (word words next) x read.stands.longest stands.longest;
      }) refl
  outcome_of front x state false read may =
      fails (λ over _.
      let words : List (List ℕ) = trie.words in
      let last = All-rest (λ (y : ℕ). (0 < y) × (y ≤ n)) (x ∷ []) (front ++ x ∷ []) front refl over 0 0 (omega arith) in
      let letter : (nat_lt 0 x && nat_le x n) ≡ true =
      and_from (nat_lt 0 x) (nat_le x n) (lt-ltb 0 x last.0) (le-leb x n last.1) in
      true≢false (sym (and_from (nat_lt state (length words)) (nat_lt 0 x && nat_le x n) (lt-ltb state (length words) read.stands.within) letter)
      ∙ may))

  -- a letter more
  follows : (front : List ℕ) (x state : ℕ) → IsRead n rules trie front state
      → Outcome n rules trie (front ++ x ∷ []) ((dictionary n trie).follow state x)
  follows front x state read = outcome_of front x state (may_move n trie state x) read refl

  fails_longer : (front rest : List ℕ) → (IsOver n front → ¬ IsIrreducible (OneOf rules) front)
      → IsOver n (front ++ rest) → ¬ IsIrreducible (OneOf rules) (front ++ rest)
  fails_longer front rest none over irreducible =
      none (All-front (λ (y : ℕ). (0 < y) × (y ≤ n)) front (front ++ rest) rest refl over) (irreducible_front rules front rest irreducible)

  reads_rest : (front : List ℕ) (x : ℕ) (rest : List ℕ) (next : Option ℕ) → Outcome n rules trie (front ++ x ∷ []) next
      → ((state : ℕ) → IsRead n rules trie (front ++ x ∷ []) state
      → Outcome n rules trie ((front ++ x ∷ []) ++ rest) (lead (dictionary n trie) (Some state) rest))
      → Outcome n rules trie (front ++ x ∷ rest) (lead (dictionary n trie) next rest)
  reads_rest front x rest (Some state) (reads read) more =
      let P : List ℕ → Type 0 = λ w. Outcome n rules trie w (lead (dictionary n trie) (Some state) rest) in
      subst P (append_assoc front (x ∷ []) rest) (more state read)
  reads_rest front x rest None (fails none) more =
      let P : List ℕ → Type 0 = λ w. Outcome n rules trie w None in
      subst P (append_assoc front (x ∷ []) rest) (fails (fails_longer (front ++ x ∷ []) rest none))

  reads_all : (front rest : List ℕ) (state : ℕ) → IsRead n rules trie front state
      → Outcome n rules trie (front ++ rest) (lead (dictionary n trie) (Some state) rest)
  reads_all front [] state read =
      let P : List ℕ → Type 0 = λ w. Outcome n rules trie w (Some state) in subst P (sym (append-nil front)) (reads read)
  reads_all front (x ∷ rest) state read =
      reads_rest front x rest ((dictionary n trie).follow state x) (follows front x state read)
      (λ next there. reads_all (front ++ x ∷ []) rest next there)

  -- the empty word
  starts : IsRead n rules trie [] 0
  starts = record {
    over = All-nil (λ (y : ℕ). (0 < y) × (y ≤ n));
    irreducible = λ before rule after one whole.
        given.lefts rule one (empty_middle before rule.0 after whole);
    stands = record { within = given.is.are.some; longest = longest_nil trie.words given.is.are };
  }

  pub outcome : (w : List ℕ) → Outcome n rules trie w (leads (dictionary n trie) w)
  outcome w = reads_all [] w 0 starts

  -- where a word leads to a state it is irreducible
  pub read_there : (w : List ℕ) (state : ℕ) → leads (dictionary n trie) w ≡ Some state → IsRead n rules trie w state
  read_there w state there = by (subst (Outcome n rules trie w) there (outcome w))
    where
      by : Outcome n rules trie w (Some state) → IsRead n rules trie w state
      by (reads read) = read

  -- and an irreducible word leads to some state
  pub leads_somewhere : (w : List ℕ) → IsOver n w → IsIrreducible (OneOf rules) w
      → (state : ℕ) × (leads (dictionary n trie) w ≡ Some state)
  leads_somewhere w over irreducible = by (leads (dictionary n trie) w) (outcome w)
    where
      by : (there : Option ℕ) → Outcome n rules trie w there → (state : ℕ) × (there ≡ Some state)
      by (Some state) (reads read) = (state, refl)
      by None (fails none) = absurd (none over irreducible)

  pub accepts_irreducible : (w : List ℕ) → MachineAccepts (dictionary n trie) w ↔ (IsOver n w × IsIrreducible (OneOf rules) w)
  accepts_irreducible w = (
    λ accepts. let read = read_there w accepts.state accepts.leads_there in (read.over, read.irreducible),
    λ both. let there = leads_somewhere w both.0 both.1 in record { state = there.0; leads_there = there.1; accepts = refl },
  )
