-- Where letters lead from a state, along the links.
use Rattle.std.proofs.Common.{◌≡◌, ℕ, ◌+◌, ◌<◌, ◌≤◌, ◌⊎◌, List, [], ◌∷◌, ◌++◌, length, drop, sym, ap, ◌∙◌, subst, inl, inr, arith}
use Rattle.std.proofs.lemmas.Bool.{cases_lt}
use Rattle.std.proofs.lemmas.List.{length_push}
use Rattle.kb_word.specs.Words.{EndsWith}
use Rattle.kb_trie.specs.States.{AreWords, word}
use Rattle.kb_trie.specs.Steps.{IsLink, IsStep, IsStepBeyond}
use Rattle.kb_trie.specs.Adding.{Adds}
use Rattle.kb_trie.specs.Children.{IsLed, IsTrieChild, LeadsToChild}
use Rattle.kb_trie.proofs.Adding.{adds_none, adds_same, adds_then}
use Rattle.kb_trie.proofs.ChildLists.{child_longer}
use Rattle.kb_trie.proofs.Longest.{EndsBy, ends_by, link_shorter}
use Rattle.kb_trie.proofs.Suffixes.{ends_all, ends_length, ends_of_both, ends_of_nil, ends_pop, ends_shorter, ends_within, drop_ends, same_ends}

-- a letter leads to one state
pub one_step : (words : List (List ℕ)) → AreWords words → (state letter one other : ℕ) → IsStep words state letter one
    → IsStep words state letter other → one ≡ other
one_step words are state letter one other first second =
    are.apart one other first.within second.within
    (same_ends (word words one) (word words other) (first.longest.longest other second.within second.longest.ends)
    (second.longest.longest one first.within first.longest.ends))

-- the letter that leads to a child is the one by which it is a child
pub led_letter : (words : List (List ℕ)) (state parent letter after : ℕ) (led : IsLed words state after)
    → word words after ≡ word words parent ++ letter ∷ [] → led.letter ≡ letter
led_letter words state parent letter after led spelled =
    let P : List ℕ → Type 0 = λ w. EndsWith (word words state ++ led.letter ∷ []) w in
    (ends_pop (word words state) (word words parent) led.letter letter (subst P spelled led.step.longest.ends)).1

-- a letter leads to the next state, whose word is longer than that of `at` with a letter more
pub record LeadsPast (words : List (List ℕ)) (state beyond at next : ℕ) : Type 0 where
  pub leads : IsStepBeyond words state beyond next
  pub past : length (word words at) + 1 < length (word words next)

-- along the links: the states that are children of states with longer words are added
pub record Linking (words : List (List ℕ)) (state beyond at : ℕ) (before now : List ℕ) : Type 0 where
  pub within : at < length words
  pub ends : EndsWith (word words state) (word words at)
  pub adds : Adds (LeadsPast words state beyond at) before now

pub linking_first : (words : List (List ℕ)) (state beyond : ℕ) (xs : List ℕ) → state < length words
    → Linking words state beyond state xs xs
linking_first words state beyond xs within =
    record {
      within = within;
      ends = ends_all (word words state);
      adds = adds_none (LeadsPast words state beyond state) xs (λ next past.
          let fits = ends_length (word words state ++ past.leads.letter ∷ []) (word words next) past.leads.step.longest.ends in
          let more = past.past in
          omega (arith, length_push (word words state) past.leads.letter));
    }

-- where a letter leads is past this state or a child of it, if the parents that are left are this state
child_or_past : (words : List (List ℕ)) → AreWords words → (state beyond at next : ℕ) → EndsWith (word words state) (word words at)
    → IsStepBeyond words state beyond next
    → ((parent : ℕ) → parent < length words → EndsWith (word words at) (word words parent)
    → length (word words next) ≡ length (word words parent) + 1 → parent ≡ at)
    → LeadsPast words state beyond at next ⊎ LeadsToChild words state at next
child_or_past words are state beyond at next ends is left =
    elim (cases_lt (length (word words at) + 1) (length (word words next))) [
      | inl more ↦ inl (record { leads = is; past = more })
      | inr fits ↦
          let longer : beyond < length (word words next) = is.longer in
          let some : 0 < next = elim (cases_lt 0 next) [
            | inl some ↦ some
            | inr none ↦
                let root : next ≡ 0 = omega arith in
                absurd (let no : ⊥ = omega (arith, ap length (ap (word words) root ∙ are.root)) in no)
          ] in
          let from : EndsBy words (word words state) is.letter next =
          ends_by words are (word words state) is.letter next is.step.within some is.step.longest.ends in
          let long : length (word words next) ≡ length (word words from.parent) + 1 =
          ap length from.spelled ∙ length_push (word words from.parent) is.letter in
          let inner : EndsWith (word words at) (word words from.parent) =
          ends_of_both (word words state) (word words at) (word words from.parent) ends from.ends (omega arith) in
          let here : from.parent ≡ at = left from.parent from.within inner long in
          let P : ℕ → Type 0 = λ p. IsTrieChild words p next in
          let child : IsTrieChild words from.parent next =
          record { letter = is.letter; child = record { within = is.step.within; spelled = from.spelled } } in
          inr (record { led = record { letter = is.letter; step = is.step }; child = subst P here child })
    ]

-- a child to which a letter leads, of a state whose word is long enough
led_beyond : (words : List (List ℕ)) (state beyond at next : ℕ) → beyond ≤ length (word words at) → LeadsToChild words state at next
    → IsStepBeyond words state beyond next
led_beyond words state beyond at next long leads =
    record {
      letter = leads.led.letter;
      step = leads.led.step;
      longer = omega (arith, child_longer words at next leads.child);
    }

-- on to the link
pub linking_more : (words : List (List ℕ)) → AreWords words → (state beyond at link : ℕ) (xs ys zs : List ℕ) → 0 < at
    → beyond ≤ length (word words at) → IsLink words at link → Linking words state beyond at xs ys
    → Adds (LeadsToChild words state at) ys zs → Linking words state beyond link xs zs
linking_more words are state beyond at link xs ys zs some long is linking added =
    let v : List ℕ = word words at in
    let shorter : length (word words link) < length v = link_shorter words are at link some linking.within is in
    record {
      within = is.within;
      ends =
          ends_within (word words state) v (word words link) linking.ends
          (ends_within v (drop 1 v) (word words link) (drop_ends v) is.longest.ends);
      adds =
          adds_then (LeadsPast words state beyond at) (LeadsToChild words state at) (LeadsPast words state beyond link) xs ys zs
          linking.adds added
          (λ next past. record { leads = past.leads; past = let more = past.past in omega arith })
          (λ next leads.
          record {
            leads = led_beyond words state beyond at next long leads;
            past = omega (arith, child_longer words at next leads.child);
          })
          (λ next past.
          child_or_past words are state beyond at next linking.ends past.leads
          (λ parent inside ends long'.
          elim (ends_shorter v (word words parent) ends) [
            | inl same ↦ are.apart parent at inside linking.within same
            | inr deeper ↦
                let short = ends_length (word words link) (word words parent) (is.longest.longest parent inside deeper) in
                let more = past.past in
                absurd (let no : ⊥ = omega arith in no)
          ]));
    }

-- at a state whose word is shorter nothing is left
pub linking_short : (words : List (List ℕ)) (state beyond at : ℕ) (xs ys : List ℕ) → length (word words at) < beyond
    → Linking words state beyond at xs ys → Adds (IsStepBeyond words state beyond) xs ys
linking_short words state beyond at xs ys short linking =
    adds_same (LeadsPast words state beyond at) (IsStepBeyond words state beyond) xs ys (λ next past. past.leads)
    (λ next leads. record { leads = leads; past = let longer = leads.longer in omega arith }) linking.adds

-- at state 0 its children are left
pub linking_root : (words : List (List ℕ)) → AreWords words → (state beyond at : ℕ) (xs ys zs : List ℕ) → at ≡ 0 → beyond ≡ 0
    → Linking words state beyond at xs ys → Adds (LeadsToChild words state 0) ys zs → Adds (IsStepBeyond words state beyond) xs zs
linking_root words are state beyond at xs ys zs root none linking added =
    let P : ℕ → Type 0 = λ a. Adds (LeadsToChild words state a) ys zs in
    adds_then (LeadsPast words state beyond at) (LeadsToChild words state at) (IsStepBeyond words state beyond) xs ys zs linking.adds
    (subst P (sym root) added) (λ next past. past.leads)
    (λ next leads. led_beyond words state beyond at next (omega arith) leads)
    (λ next is.
    child_or_past words are state beyond at next linking.ends is
    (λ parent inside ends long.
    let Q : List ℕ → Type 0 = λ w. EndsWith w (word words parent) in
    let empty : word words at ≡ [] = ap (word words) root ∙ are.root in
    are.apart parent at inside linking.within
    (ends_of_nil (word words parent) (subst Q empty ends) ∙ sym empty)))

-- a letter leads to a state only if the last letter of its word does
pub led_by : (words : List (List ℕ)) → AreWords words → (state parent letter after next : ℕ)
    → word words after ≡ word words parent ++ letter ∷ [] → IsStep words state letter next → IsLed words state after → next ≡ after
led_by words are state parent letter after next spelled step led =
    let same : led.letter ≡ letter = led_letter words state parent letter after led spelled in
    let P : ℕ → Type 0 = λ x. IsStep words state x after in
    one_step words are state letter next after step (subst P same led.step)
