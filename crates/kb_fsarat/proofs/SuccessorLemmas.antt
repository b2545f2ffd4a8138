-- The least accepted text of a length, and the next one after a text.
use Rattle.std.proofs.Common.{◌≡◌, ℕ, zero, suc, ◌+◌, ◌-◌, ◌<◌, ◌≤◌, IsTrue, List, [], ◌∷◌, ◌++◌, length, get_or, take, drop, refl, sym, ap, ◌∙◌, subst, inl, inr, append_assoc, length-drop, add-zero, arith}
use Rattle.std.proofs.lemmas.Bool.{cases_lt}
use Rattle.std.proofs.lemmas.List.{append-nil, take_more, drop_more, drop_all, take-append-drop, length_push, get_or_push, get_or_append_left}
use Rattle.kb_word.specs.Words.{IsEarlier}
use Rattle.kb_fsa.specs.Table.{Table, IsTable, is_accepting, step, after, state_after, AcceptsFrom}
use Rattle.kb_fsa.proofs.Lookups.{after-append}
use Rattle.kb_fsarat.specs.Layers.{HasText, IsFirstMove, NoMove}
use Rattle.kb_fsarat.specs.Successors.{IsLeastFrom, IsCompleted, NoneLater, IsNextFrom, AreStatesAlong, NoneOfLength, IsFirstOfLength}
use Rattle.kb_fsarat.proofs.TableMoves.{IsMove-from_contains, move_from_step}
use Rattle.kb_fsarat.proofs.LayerLemmas.{HasText-more, HasText-state}

-- a first letter that leads on to a text is a symbol
symbol_positive : (table : Table) (k state symbol : ℕ) → IsTable table → HasText table k (step table state symbol) → 0 < symbol
symbol_positive table k state symbol is has =
    let there = HasText-state table k (step table state symbol) is has in
    (IsMove-from_contains table state symbol (step table state symbol) is
    (move_from_step table state symbol (step table state symbol) refl there.positive)).positive

text_of : (table : Table) (k state : ℕ) (text : List ℕ) → length text ≡ k → AcceptsFrom table state text → HasText table k state
text_of table k state text long accepts = record { text = text; long = long; accepts = accepts }

-- ---- the least text

pub least_nil : (table : Table) (state : ℕ) → HasText table 0 state → IsLeastFrom table 0 state []
least_nil table state has = record {
  long = refl;
  accepts = empty has.text has.long has.accepts;
  least = λ other long accepts. none_earlier other long;
}
  where
    empty : (text : List ℕ) → length text ≡ 0 → AcceptsFrom table state text → IsTrue (is_accepting table state)
    empty [] long accepts = accepts
    empty (symbol ∷ text) long accepts = absurd (let no : ⊥ = omega arith in no)

    none_earlier : (other : List ℕ) → length other ≡ 0 → ¬ IsEarlier other []
    none_earlier [] long = λ earlier. earlier
    none_earlier (symbol ∷ other) long = λ earlier. earlier

pub least_cons : (table : Table) (k state symbol target : ℕ) (back : List ℕ) → IsTable table → IsFirstMove table k state 0 (symbol, target)
    → IsLeastFrom table k target back → IsLeastFrom table (k + 1) state (symbol ∷ back)
least_cons table k state symbol target back is move least =
    let long = least.long in
    let P : ℕ → Type 0 = λ s. AcceptsFrom table s back in
    record { long = omega arith; accepts = subst P (sym move.leads) least.accepts; least = earliest }
  where
    earliest : (other : List ℕ) → length other ≡ k + 1 → AcceptsFrom table state other → ¬ IsEarlier other (symbol ∷ back)
    earliest [] long accepts = λ earlier. earlier
    earliest (letter ∷ other) long accepts = λ earlier.
        let rest : length other ≡ k = omega arith in
        let has = text_of table k (step table state letter) other rest accepts in
        let low = move.first letter (symbol_positive table k state letter is has) has in
        elim earlier [
          | inl less ↦ absurd (let no : ⊥ = omega arith in no)
          | inr same ↦
              let P : ℕ → Type 0 = λ s. AcceptsFrom table s other in
              least.least other rest (subst P (ap (step table state) same.0 ∙ move.leads) accepts) same.1
        ]

-- ---- the loop that adds the least letters

-- what is added to the word from here on completes the front
pub record IsCompleting (table : Table) (k state : ℕ) (front word : List ℕ) (rest here : ℕ) : Type 0 where
  pub live : HasText table rest here
  pub completes : (back : List ℕ) → IsLeastFrom table rest here back → IsCompleted table k state front (word ++ back)

pub completing_none : (table : Table) (k state : ℕ) (front : List ℕ) → HasText table k state → IsCompleting table k state front front k state
completing_none table k state front live = record {
  live = live;
  completes = λ back least. record { back = back; whole = refl; least = least };
}

pub completing_more : (table : Table) (k state : ℕ) (front word more : List ℕ) (next rest here symbol target : ℕ) → IsTable table
    → IsCompleting table k state front word next here → next ≡ rest + 1 → IsFirstMove table rest here 0 (symbol, target)
    → more ≡ word ++ symbol ∷ [] → IsCompleting table k state front more rest target
completing_more table k state front word more next rest here symbol target is completing count move pushed = record {
  live = move.live;
  completes = λ back least.
      let P : List ℕ → Type 0 = λ w. IsCompleted table k state front w in
      let Q : ℕ → Type 0 = λ n. IsLeastFrom table n here (symbol ∷ back) in
      subst P (sym (ap (λ w. w ++ back) pushed ∙ append_assoc word (symbol ∷ []) back))
      (completing.completes (symbol ∷ back) (subst Q (sym count) (least_cons table rest here symbol target back is move least)));
}

pub completing_all : (table : Table) (k state : ℕ) (front word : List ℕ) (rest here : ℕ) → IsCompleting table k state front word rest here → rest ≡ 0
    → IsCompleted table k state front word
completing_all table k state front word rest here completing none =
    let P : List ℕ → Type 0 = λ w. IsCompleted table k state front w in
    let Q : ℕ → Type 0 = λ n. HasText table n here in
    let R : ℕ → Type 0 = λ n. IsLeastFrom table n here [] in
    subst P (append-nil word) (completing.completes [] (subst R (sym none) (least_nil table here (subst Q none completing.live))))

-- some move leads on while there are letters left
pub move_left : (table : Table) (k state : ℕ) (front word : List ℕ) (next rest here : ℕ) → IsTable table
    → IsCompleting table k state front word next here → next ≡ rest + 1 → ¬ NoMove table rest here 0
move_left table k state front word next rest here is completing count none =
    let P : ℕ → Type 0 = λ n. HasText table n here in
    let first = (HasText-more table rest here).0 (subst P count completing.live) in
    none first.0 (symbol_positive table rest here first.0 is first.1) first.1

-- ---- states along a text

pub record IsAlong (table : Table) (text states : List ℕ) (count state : ℕ) : Type 0 where
  pub one_each : length states ≡ count
  pub along : AreStatesAlong table text states
  pub here : state ≡ state_after table (take count text)

pub along_none : (table : Table) (text states : List ℕ) (state : ℕ) → states ≡ [] → state ≡ table.initial → IsAlong table text states 0 state
along_none table text states state none begins =
    let count = ap length none in
    record {
      one_each = count;
      along = record { within = omega arith; reached = λ k d within. absurd (let no : ⊥ = omega arith in no) };
      here = begins;
    }

-- the state after one letter more
pub state_after-more : (table : Table) (text : List ℕ) (place d : ℕ) → place < length text
    → state_after table (take (place + 1) text) ≡ step table (state_after table (take place text)) (get_or text place d)
state_after-more table text place d within =
    ap (state_after table) (take_more text place d within)
    ∙ after-append table table.initial (take place text) (get_or text place d ∷ [])

pub along_more : (table : Table) (text states more : List ℕ) (place d state next : ℕ) → place < length text
    → IsAlong table text states place state → more ≡ states ++ state ∷ [] → next ≡ step table state (get_or text place d)
    → IsAlong table text more (place + 1) next
along_more table text states more place d state next within along pushed leads =
    let one_each = along.one_each in
    let count : length more ≡ place + 1 = ap length pushed ∙ length_push states state ∙ ap (λ n. n + 1) one_each in
    record {
      one_each = count;
      along = record {
        within = omega arith;
        reached = λ k e low. elim (cases_lt k (length states)) [
          | inl old ↦
              ap (λ s. get_or s k e) pushed ∙ get_or_append_left states (state ∷ []) e k old ∙ along.along.reached k e old
          | inr new ↦
              let last : length states ≡ k = omega arith in
              ap (λ s. get_or s k e) pushed ∙ get_or_push states state e k last ∙ along.here
              ∙ ap (λ n. state_after table (take n text)) (sym one_each ∙ last)
        ];
      };
      here = leads ∙ ap (λ s. step table s (get_or text place d)) along.here ∙ sym (state_after-more table text place d within);
    }

-- ---- the next text

pub later_none : (table : Table) (state : ℕ) (text : List ℕ) (place : ℕ) → length text ≤ place → NoneLater table state (drop place text)
later_none table state text place past other long accepts earlier =
    let P : List ℕ → Type 0 = λ w. IsEarlier w other in
    subst P (drop_all place text past) earlier

pub later_cons : (table : Table) (state letter : ℕ) (text : List ℕ) → NoMove table (length text) state letter
    → NoneLater table (step table state letter) text → NoneLater table state (letter ∷ text)
later_cons table state letter text none later [] long accepts = λ earlier. earlier
later_cons table state letter text none later (symbol ∷ other) long accepts = λ earlier.
    let rest : length other ≡ length text = omega arith in
    elim earlier [
      | inl less ↦ none symbol less (text_of table (length text) (step table state symbol) other rest accepts)
      | inr same ↦
          let P : ℕ → Type 0 = λ s. AcceptsFrom table s other in
          later other rest (subst P (ap (step table state) (sym same.0)) accepts) same.1
    ]

pub next_cons : (table : Table) (state letter symbol target : ℕ) (text back : List ℕ) → IsFirstMove table (length text) state letter (symbol, target)
    → NoneLater table (step table state letter) text → IsLeastFrom table (length text) target back
    → IsNextFrom table state (letter ∷ text) (symbol ∷ back)
next_cons table state letter symbol target text back move later least =
    let P : ℕ → Type 0 = λ s. AcceptsFrom table s back in
    record {
      long = ap suc least.long;
      accepts = subst P (sym move.leads) least.accepts;
      later = inl move.above;
      earliest = earliest;
    }
  where
    earliest : (other : List ℕ) → length other ≡ suc (length text) → AcceptsFrom table state other → IsEarlier (letter ∷ text) other
        → ¬ IsEarlier other (symbol ∷ back)
    earliest [] long accepts after_text = λ earlier. earlier
    earliest (first ∷ other) long accepts after_text = λ earlier.
        let rest : length other ≡ length text = omega arith in
        elim after_text [
          | inl less ↦
              let low = move.first first less (text_of table (length text) (step table state first) other rest accepts) in
              elim earlier [
                | inl before ↦ absurd (let no : ⊥ = omega arith in no)
                | inr same ↦
                    let P : ℕ → Type 0 = λ s. AcceptsFrom table s other in
                    least.least other rest (subst P (ap (step table state) same.0 ∙ move.leads) accepts) same.1
              ]
          | inr same ↦
              let P : ℕ → Type 0 = λ s. AcceptsFrom table s other in
              later other rest (subst P (ap (step table state) (sym same.0)) accepts) same.1
        ]

earlier_after : (front text other : List ℕ) → IsEarlier text other → IsEarlier (front ++ text) (front ++ other)
earlier_after [] text other earlier = earlier
earlier_after (letter ∷ front) text other earlier = inr (refl, earlier_after front text other earlier)

pub next_after : (table : Table) (state : ℕ) (front text next : List ℕ) → IsNextFrom table (after table state front) text next
    → IsNextFrom table state (front ++ text) (front ++ next)
next_after table state [] text next is = is
next_after table state (letter ∷ front) text next is =
    let rest = next_after table (step table state letter) front text next is in
    record { long = ap suc rest.long; accepts = rest.accepts; later = inr (refl, rest.later); earliest = earliest rest }
  where
    earliest : IsNextFrom table (step table state letter) (front ++ text) (front ++ next)
        → (other : List ℕ) → length other ≡ suc (length (front ++ text)) → AcceptsFrom table state other
        → IsEarlier (letter ∷ (front ++ text)) other → ¬ IsEarlier other (letter ∷ (front ++ next))
    earliest rest [] long accepts after_text = λ earlier. earlier
    earliest rest (first ∷ other) long accepts after_text = λ earlier.
        elim after_text [
          | inl less ↦ elim earlier [
            | inl before ↦ absurd (let no : ⊥ = omega arith in no)
            | inr same ↦ let e = same.0 in absurd (let no : ⊥ = omega arith in no)
          ]
          | inr same ↦ elim earlier [
            | inl before ↦ let e = same.0 in absurd (let no : ⊥ = omega arith in no)
            | inr alike ↦
                let P : ℕ → Type 0 = λ s. AcceptsFrom table s other in
                rest.earliest other (let e = long in omega arith) (subst P (ap (step table state) (sym same.0)) accepts) same.1 alike.1
          ]
        ]

-- at a place of a word: what is left from there on
pub later_more : (table : Table) (word : List ℕ) (place rest letter state : ℕ) → place < length word → rest ≡ length word - 1 - place
    → letter ≡ get_or word place 0 → state ≡ state_after table (take place word) → NoMove table rest state letter
    → NoneLater table (state_after table (take (place + 1) word)) (drop (place + 1) word)
    → NoneLater table (state_after table (take place word)) (drop place word)
later_more table word place rest letter state within count at reached none later =
    let here = state_after table (take place word) in
    let left = drop (place + 1) word in
    let long : rest ≡ length left = omega (arith, length-drop (place + 1) word) in
    let P : List ℕ → Type 0 = λ w. NoneLater table here w in
    let Q : ℕ → Type 0 = λ s. NoneLater table s left in
    let R : ℕ → Type 0 = λ n. NoMove table n state letter in
    let S : ℕ → Type 0 = λ s. NoMove table (length left) s letter in
    let T : ℕ → Type 0 = λ x. NoMove table (length left) here x in
    subst P (sym (drop_more word place 0 within))
    (later_cons table here (get_or word place 0) left (subst T at (subst S reached (subst R long none)))
    (subst Q (state_after-more table word place 0 within) later))

pub next_found : (table : Table) (word front next : List ℕ) (place rest letter state symbol target : ℕ) → place < length word
    → rest ≡ length word - 1 - place → letter ≡ get_or word place 0 → state ≡ state_after table (take place word)
    → IsFirstMove table rest state letter (symbol, target)
    → NoneLater table (state_after table (take (place + 1) word)) (drop (place + 1) word)
    → front ≡ take place word ++ symbol ∷ [] → IsCompleted table rest target front next
    → IsNextFrom table table.initial word next
next_found table word front next place rest letter state symbol target within count at reached move later begins completed =
    let here = state_after table (take place word) in
    let left = drop (place + 1) word in
    let x = get_or word place 0 in
    let long : rest ≡ length left = omega (arith, length-drop (place + 1) word) in
    let Q : ℕ → Type 0 = λ s. NoneLater table s left in
    let R : ℕ → Type 0 = λ n. IsFirstMove table n state letter (symbol, target) in
    let S : ℕ → Type 0 = λ s. IsFirstMove table (length left) s letter (symbol, target) in
    let T : ℕ → Type 0 = λ y. IsFirstMove table (length left) here y (symbol, target) in
    let U : ℕ → Type 0 = λ n. IsLeastFrom table n target completed.back in
    let found = next_after table table.initial (take place word) (x ∷ left) (symbol ∷ completed.back)
    (next_cons table here x symbol target left completed.back (subst T at (subst S reached (subst R long move)))
    (subst Q (state_after-more table word place 0 within) later) (subst U long completed.least)) in
    let whole : word ≡ take place word ++ x ∷ left =
    sym (take-append-drop place word) ∙ ap (λ w. take place word ++ w) (drop_more word place 0 within) in
    let made : next ≡ take place word ++ symbol ∷ completed.back =
    completed.whole ∙ ap (λ w. w ++ completed.back) begins ∙ append_assoc (take place word) (symbol ∷ []) completed.back in
    let P : List ℕ → Type 0 = λ w. IsNextFrom table table.initial w next in
    let V : List ℕ → Type 0 = λ w. IsNextFrom table table.initial (take place word ++ x ∷ left) w in
    subst P (sym whole) (subst V (sym made) found)

-- ---- lengths

-- where no text of a length leads to acceptance, no longer one does
pub none_longer : (table : Table) (k more : ℕ) → ((state : ℕ) → ¬ HasText table k state) → (state : ℕ) → ¬ HasText table (k + more) state
none_longer table k zero none state has = let P : ℕ → Type 0 = λ n. HasText table n state in none state (subst P (add-zero k) has)
none_longer table k (suc more) none state has =
    let P : ℕ → Type 0 = λ n. HasText table n state in
    let first = (HasText-more table (k + more) state).0 (subst P (let same : k + suc more ≡ k + more + 1 = omega arith in same) has) in
    none_longer table k more none (step table state first.0) first.1

pub none_from : (table : Table) (low high k : ℕ) → NoneOfLength table low k → ((state : ℕ) → ¬ HasText table k state) → NoneOfLength table low high
none_from table low high k before none n from below has =
    elim (cases_lt n k) [
      | inl less ↦ before n from less has
      | inr past ↦
          let P : ℕ → Type 0 = λ m. HasText table m table.initial in
          none_longer table k (n - k) none table.initial (subst P (let same : n ≡ k + (n - k) = omega arith in same) has)
    ]

pub none_more : (table : Table) (low k : ℕ) → NoneOfLength table low k → ¬ HasText table k table.initial → NoneOfLength table low (k + 1)
none_more table low k before none n from below has =
    elim (cases_lt n k) [
      | inl less ↦ before n from less has
      | inr past ↦
          let P : ℕ → Type 0 = λ m. HasText table m table.initial in
          none (subst P (let same : n ≡ k = omega arith in same) has)
    ]

pub first_found : (table : Table) (low high k : ℕ) (word : List ℕ) → low ≤ k → k ≤ high → NoneOfLength table low k
    → IsCompleted table k table.initial [] word → IsFirstOfLength table low high word
first_found table low high k word from within before completed =
    let long : k ≡ length word = sym (ap length completed.whole ∙ completed.least.long) in
    let P : ℕ → Type 0 = λ n. IsLeastFrom table n table.initial word in
    let Q : List ℕ → Type 0 = λ w. IsLeastFrom table k table.initial w in
    let R : ℕ → Type 0 = λ n. NoneOfLength table low n in
    record {
      least_length = omega arith;
      most_length = omega arith;
      none_shorter = subst R long before;
      least = subst P long (subst Q (sym completed.whole) completed.least);
    }
