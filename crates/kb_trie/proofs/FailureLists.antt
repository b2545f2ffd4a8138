-- The lists of the failure tree, when a state is taken out of one and when there is a state more.
use Rattle.std.proofs.Common.{◌≡◌, ℕ, ◌+◌, ◌<◌, ◌≤◌, List, length, get_or, set, sym, ap, ◌∙◌, subst, inl, inr, arith, length-set}
use Rattle.std.proofs.lemmas.List.{get_or-set_same, get_or-set_other}
use Rattle.std.proofs.lemmas.Bool.{cases_lt, cases_eq, cases_order}
use Rattle.kb_trie.specs.FailureTrees.{AreFailureChildren, IsLastLinked, IsNextLinked}

-- a state's link is another one now, which is none of the states
pub record Unlinks (count : ℕ) (links links' : List ℕ) (state : ℕ) : Type 0 where
  pub gone : count ≤ get_or links' state 0
  pub others : (other : ℕ) → (other ≡ state → ⊥) → get_or links' other 0 ≡ get_or links other 0

pub unlinks : (count : ℕ) (links : List ℕ) (state out : ℕ) → state < length links → count ≤ out → Unlinks count links (set links state out) state
unlinks count links state out within far =
    record {
      gone = omega (arith, get_or-set_same links state out 0 within);
      others = λ other apart. get_or-set_other links state other out 0 apart;
    }

-- what has a link that is a state is another state, and had it before
was_linked : (count : ℕ) (links links' : List ℕ) (state link other : ℕ) → Unlinks count links links' state → link < count
    → get_or links' other 0 ≡ link → (other ≡ state → ⊥) × (get_or links other 0 ≡ link)
was_linked count links links' state link other un within is =
    let apart : other ≡ state → ⊥ = λ same.
    omega (arith, un.gone, ap (λ (s : ℕ). get_or links' s 0) same) in
    (apart, sym (un.others other apart) ∙ is)

-- the last state that has a link, without a state that isn't it
last_without : (count : ℕ) (links links' : List ℕ) (state link bound last : ℕ) → Unlinks count links links' state → link < count
    → (0 < last → last ≡ state → ⊥) → IsLastLinked links link bound last → IsLastLinked links' link bound last
last_without count links links' state link bound last un within apart is =
    record {
      before = is.before;
      linked = λ some. un.others last (apart some) ∙ is.linked some;
      last = λ other some below linked. is.last other some below (was_linked count links links' state link other un within linked).1;
    }

-- the state next below it takes its place
last_next : (count : ℕ) (links links' : List ℕ) (state link bound next : ℕ) → Unlinks count links links' state → link < count
    → state < bound → ((other : ℕ) → state < other → other < bound → get_or links other 0 ≡ link → ⊥)
    → IsLastLinked links link state next → IsLastLinked links' link bound next
last_next count links links' state link bound next un within below none is =
    record {
      before = λ some. omega (arith, is.before some);
      linked = λ some.
          let less : next < state = is.before some in
          un.others next (omega arith) ∙ is.linked some;
      last = λ other some inside linked.
          let was = was_linked count links links' state link other un within linked in
          elim (cases_order other state) [
            | inl same ↦ absurd (was.0 same)
            | inr apart ↦ elim apart [
              | inl less ↦ is.last other some less was.1
              | inr more ↦ absurd (none other more inside was.1)
            ]
          ];
    }

-- the next state that has a link, without a state that isn't it
next_without : (count : ℕ) (links links' : List ℕ) (state link after bound next : ℕ) → Unlinks count links links' state → link < count
    → (0 < next → next ≡ state → ⊥) → IsNextLinked links link after bound next → IsNextLinked links' link after bound next
next_without count links links' state link after bound next un within apart is =
    record {
      behind = is.behind;
      before = is.before;
      linked = λ some. un.others next (apart some) ∙ is.linked some;
      some = λ other above below linked. is.some other above below (was_linked count links links' state link other un within linked).1;
      next = λ other above below linked. is.next other above below (was_linked count links links' state link other un within linked).1;
    }

-- the state next above it takes its place
next_previous : (count : ℕ) (links links' : List ℕ) (state link after bound previous : ℕ) → Unlinks count links links' state → link < count
    → after < state → ((other : ℕ) → after < other → other < state → get_or links other 0 ≡ link → ⊥)
    → IsNextLinked links link state bound previous → IsNextLinked links' link after bound previous
next_previous count links links' state link after bound previous un within above none is =
    let split : (other : ℕ) → after < other → get_or links' other 0 ≡ link → (state < other) × (get_or links other 0 ≡ link) = λ other inside linked.
    let was = was_linked count links links' state link other un within linked in
    elim (cases_order other state) [
      | inl same ↦ absurd (was.0 same)
      | inr apart ↦ elim apart [
        | inl less ↦ absurd (none other inside less was.1)
        | inr more ↦ (more, was.1)
      ]
    ] in
    record {
      behind = λ some. omega (arith, is.behind some);
      before = is.before;
      linked = λ some.
          let more : state < previous = is.behind some in
          un.others previous (omega arith) ∙ is.linked some;
      some = λ other inside below linked.
          let s = split other inside linked in is.some other s.0 below s.1;
      next = λ other inside below linked.
          let s = split other inside linked in is.next other s.0 below s.1;
    }

-- the head of a list, without the state
first_out : (count : ℕ) (links links' firsts : List ℕ) (state link next first' other : ℕ) → Unlinks count links links' state
    → get_or links state 0 ≡ link → link < count → 0 < state → state < count → other < count → link < length firsts
    → IsLastLinked links link state next → IsLastLinked links other count (get_or firsts other 0)
    → (get_or firsts link 0 ≡ state → first' ≡ next) → ((get_or firsts link 0 ≡ state → ⊥) → first' ≡ get_or firsts link 0)
    → IsLastLinked links' other count (get_or (set firsts link first') other 0)
first_out count links links' firsts state link next first' other un linked within some in_count in_other room is_next is_first head no_head =
    let L : ℕ → Type 0 = λ last. IsLastLinked links' other count last in
    elim (cases_eq other link) [
      | inl same ↦
          let value : get_or (set firsts link first') other 0 ≡ first' =
          ap (λ (l : ℕ). get_or (set firsts link first') l 0) same ∙ get_or-set_same firsts link first' 0 room in
          let M : ℕ → Type 0 = λ l. IsLastLinked links' l count first' in
          let N : ℕ → Type 0 = λ l. IsLastLinked links l count (get_or firsts l 0) in
          let first : IsLastLinked links link count (get_or firsts link 0) = subst N same is_first in
          let here : IsLastLinked links' link count first' =
          elim (cases_eq (get_or firsts link 0) state) [
            | inl is ↦
                let F : ℕ → Type 0 = λ f. IsLastLinked links' link count f in
                subst F (sym (head is))
                (last_next count links links' state link count next un within in_count
                (λ more above below is_linked. omega (arith, first.last more (omega arith) below is_linked)) is_next)
            | inr apart ↦
                let F : ℕ → Type 0 = λ f. IsLastLinked links' link count f in
                subst F (sym (no_head apart))
                (last_without count links links' state link count (get_or firsts link 0) un within (λ positive. apart) first)
          ] in
          subst L (sym value) (subst M (sym same) here)
      | inr apart ↦
          let value : get_or (set firsts link first') other 0 ≡ get_or firsts other 0 = get_or-set_other firsts link other first' 0 apart in
          subst L (sym value)
          (last_without count links links' state other count (get_or firsts other 0) un in_other
          (λ positive same. apart (sym (is_first.linked positive) ∙ ap (λ (s : ℕ). get_or links s 0) same ∙ linked)) is_first)
    ]

-- the next one of another state, without the state
next_out : (count : ℕ) (links links' nexts : List ℕ) (state link next previous other : ℕ) → Unlinks count links links' state
    → get_or links state 0 ≡ link → link < count → 0 < state → state < count → 0 < other → other < count → (other ≡ state → ⊥)
    → get_or links other 0 < count → previous < length nexts
    → IsLastLinked links link state next → IsNextLinked links link state count previous
    → IsLastLinked links (get_or links other 0) other (get_or nexts other 0)
    → IsLastLinked links' (get_or links other 0) other (get_or (set nexts previous next) other 0)
next_out count links links' nexts state link next previous other un linked within some in_count some_other in_other apart other_linked room is_next is_previous is =
    let L : ℕ → Type 0 = λ last. IsLastLinked links' (get_or links other 0) other last in
    elim (cases_eq other previous) [
      | inl same ↦
          let value : get_or (set nexts previous next) other 0 ≡ next =
          ap (λ (s : ℕ). get_or (set nexts previous next) s 0) same ∙ get_or-set_same nexts previous next 0 room in
          let positive : 0 < previous = omega arith in
          let up : get_or links other 0 ≡ link = ap (λ (s : ℕ). get_or links s 0) same ∙ is_previous.linked positive in
          let M : ℕ → Type 0 = λ l. IsLastLinked links' l other next in
          let behind : state < previous = is_previous.behind positive in
          subst L (sym value)
          (subst M (sym up)
          (last_next count links links' state link other next un within (omega arith)
          (λ more above below is_linked. omega (arith, is_previous.next more above (omega arith) is_linked)) is_next))
      | inr different ↦
          let value : get_or (set nexts previous next) other 0 ≡ get_or nexts other 0 = get_or-set_other nexts previous other next 0 different in
          subst L (sym value)
          (last_without count links links' state (get_or links other 0) other (get_or nexts other 0) un other_linked
          (λ positive is_state.
          let below : state < other = omega (arith, is.before positive) in
          let up : get_or links other 0 ≡ link = sym (is.linked positive) ∙ ap (λ (s : ℕ). get_or links s 0) is_state ∙ linked in
          let there : 0 < previous = is_previous.some other below in_other up in
          let upto : previous ≤ other = is_previous.next other below in_other up in
          let back : previous ≤ get_or nexts other 0 =
          is.last previous there (omega arith) (is_previous.linked there ∙ sym up) in
          omega (arith, is_previous.behind there)) is)
    ]

-- the previous one of another state, without the state
back_out : (count : ℕ) (links links' backs : List ℕ) (state link next previous other : ℕ) → Unlinks count links links' state
    → get_or links state 0 ≡ link → link < count → 0 < state → state < count → 0 < other → other < count → (other ≡ state → ⊥)
    → get_or links other 0 < count → next < length backs
    → IsLastLinked links link state next → IsNextLinked links link state count previous
    → IsNextLinked links (get_or links other 0) other count (get_or backs other 0)
    → IsNextLinked links' (get_or links other 0) other count (get_or (set backs next previous) other 0)
back_out count links links' backs state link next previous other un linked within some in_count some_other in_other apart other_linked room is_next is_previous is =
    let L : ℕ → Type 0 = λ n. IsNextLinked links' (get_or links other 0) other count n in
    elim (cases_eq other next) [
      | inl same ↦
          let value : get_or (set backs next previous) other 0 ≡ previous =
          ap (λ (s : ℕ). get_or (set backs next previous) s 0) same ∙ get_or-set_same backs next previous 0 room in
          let positive : 0 < next = omega arith in
          let up : get_or links other 0 ≡ link = ap (λ (s : ℕ). get_or links s 0) same ∙ is_next.linked positive in
          let M : ℕ → Type 0 = λ l. IsNextLinked links' l other count previous in
          let less : next < state = is_next.before positive in
          subst L (sym value)
          (subst M (sym up)
          (next_previous count links links' state link other count previous un within (omega arith)
          (λ more above below is_linked. omega (arith, is_next.last more (omega arith) below is_linked)) is_previous))
      | inr different ↦
          let value : get_or (set backs next previous) other 0 ≡ get_or backs other 0 = get_or-set_other backs next other previous 0 different in
          subst L (sym value)
          (next_without count links links' state (get_or links other 0) other count (get_or backs other 0) un other_linked
          (λ positive is_state.
          let above : other < state = omega (arith, is.behind positive) in
          let up : get_or links other 0 ≡ link = sym (is.linked positive) ∙ ap (λ (s : ℕ). get_or links s 0) is_state ∙ linked in
          let upto : other ≤ next = is_next.last other some_other above up in
          let there : 0 < next = omega arith in
          let back : get_or backs other 0 ≤ next =
          is.next next (omega arith) (omega (arith, is_next.before there)) (is_next.linked there ∙ sym up) in
          omega (arith, is_next.before there)) is)
    ]

-- a state is taken out of its list
pub taken_out : (count : ℕ) (links firsts nexts backs : List ℕ) (state out link next previous head : ℕ)
    → AreFailureChildren count links firsts nexts backs
    → 0 < state → state < count → get_or links state 0 < count → count ≤ out → link ≡ get_or links state 0 → next ≡ get_or nexts state 0
    → previous ≡ get_or backs state 0 → (get_or firsts link 0 ≡ state → head ≡ next)
    → ((get_or firsts link 0 ≡ state → ⊥) → head ≡ get_or firsts link 0)
    → AreFailureChildren count (set links state out) (set firsts link head) (set nexts previous next) (set backs next previous)
taken_out count links firsts nexts backs state out link next previous head are some within in_count far link_is next_is previous_is is_head no_head =
    let links' : List ℕ = set links state out in
    let un : Unlinks count links links' state = unlinks count links state out (omega (arith, are.link_room)) far in
    let L : ℕ → Type 0 = λ l. IsLastLinked links l state (get_or nexts state 0) in
    let M : ℕ → Type 0 = λ n. IsLastLinked links link state n in
    let is_next : IsLastLinked links link state next = subst M (sym next_is) (subst L (sym link_is) (are.next state some within in_count)) in
    let N : ℕ → Type 0 = λ l. IsNextLinked links l state count (get_or backs state 0) in
    let O : ℕ → Type 0 = λ n. IsNextLinked links link state count n in
    let is_previous : IsNextLinked links link state count previous = subst O (sym previous_is) (subst N (sym link_is) (are.back state some within in_count)) in
    let linked : link < count = omega arith in
    let next_in : next < count = elim (cases_lt 0 next) [
      | inl positive ↦ omega (arith, is_next.before positive)
      | inr zero ↦ omega arith
    ] in
    let previous_in : previous < count = elim (cases_lt 0 previous) [
      | inl positive ↦ is_previous.before positive
      | inr zero ↦ omega arith
    ] in
    record {
      link_room = omega (arith, are.link_room, length-set links state out);
      first_room = omega (arith, are.first_room, length-set firsts link head);
      next_room = omega (arith, are.next_room, length-set nexts previous next);
      previous_room = omega (arith, are.previous_room, length-set backs next previous);
      first = λ other in_other.
          first_out count links links' firsts state link next head other un (sym link_is) linked some within in_other
          (omega (arith, are.first_room)) is_next (are.first other in_other) is_head no_head;
      next = λ other some_other in_other other_linked.
          let apart : other ≡ state → ⊥ = λ same. omega (arith, un.gone, ap (λ (s : ℕ). get_or (set links state out) s 0) same) in
          let same : get_or links' other 0 ≡ get_or links other 0 = un.others other apart in
          let P : ℕ → Type 0 = λ l. IsLastLinked (set links state out) l other (get_or (set nexts previous next) other 0) in
          let inside : get_or links other 0 < count = omega arith in
          subst P (sym same)
          (next_out count links links' nexts state link next previous other un (sym link_is) linked some within some_other in_other apart inside
          (omega (arith, are.next_room)) is_next is_previous (are.next other some_other in_other inside));
      back = λ other some_other in_other other_linked.
          let apart : other ≡ state → ⊥ = λ same. omega (arith, un.gone, ap (λ (s : ℕ). get_or (set links state out) s 0) same) in
          let same : get_or links' other 0 ≡ get_or links other 0 = un.others other apart in
          let P : ℕ → Type 0 = λ l. IsNextLinked (set links state out) l other count (get_or (set backs next previous) other 0) in
          let inside : get_or links other 0 < count = omega arith in
          subst P (sym same)
          (back_out count links links' backs state link next previous other un (sym link_is) linked some within some_other in_other apart inside
          (omega (arith, are.previous_room)) is_next is_previous (are.back other some_other in_other inside));
    }

-- a state more, which stands in no list
more_first : (count : ℕ) (links links' firsts : List ℕ) (state : ℕ) → Unlinks (count + 1) links links' count
    → ((other : ℕ) → other < count → get_or links other 0 < count) → state < count + 1 → count < length firsts
    → ((other : ℕ) → other < count → IsLastLinked links other count (get_or firsts other 0))
    → IsLastLinked links' state (count + 1) (get_or (set firsts count 0) state 0)
more_first count links links' firsts state un linked within room each =
    let L : ℕ → Type 0 = λ last. IsLastLinked links' state (count + 1) last in
    elim (cases_eq state count) [
      | inl same ↦
          let value : get_or (set firsts count 0) state 0 ≡ 0 =
          ap (λ (s : ℕ). get_or (set firsts count 0) s 0) same ∙ get_or-set_same firsts count 0 0 room in
          subst L (sym value) (record {
            before = λ some. absurd (omega arith);
            linked = λ some. absurd (omega arith);
            last = λ other some below is.
                let was = was_linked (count + 1) links links' count state other un within is in
                absurd (omega (arith, was.0, was.1, linked other));
          })
      | inr apart ↦
          let old : state < count = omega arith in
          let first : IsLastLinked links state count (get_or firsts state 0) = each state old in
          let value : get_or (set firsts count 0) state 0 ≡ get_or firsts state 0 = get_or-set_other firsts count state 0 0 apart in
          subst L (sym value) (record {
            before = λ some. omega (arith, first.before some);
            linked = λ some.
                let less : get_or firsts state 0 < count = first.before some in
                un.others (get_or firsts state 0) (omega arith) ∙ first.linked some;
            last = λ other some below is.
                let was = was_linked (count + 1) links links' count state other un within is in
                let in_count : other < count = omega (arith, was.0) in
                first.last other some in_count was.1;
          })
    ]

pub one_more : (count : ℕ) (links firsts nexts backs : List ℕ) (out : ℕ) → AreFailureChildren count links firsts nexts backs
    → ((other : ℕ) → other < count → get_or links other 0 < count) → count < length links → count < length firsts → count < length nexts
    → count < length backs → count + 1 ≤ out → AreFailureChildren (count + 1) (set links count out) (set firsts count 0) nexts backs
one_more count links firsts nexts backs out are linked link_room first_room next_room previous_room far =
    let links' : List ℕ = set links count out in
    let un : Unlinks (count + 1) links links' count = unlinks (count + 1) links count out link_room far in
    record {
      link_room = omega (arith, length-set links count out);
      first_room = omega (arith, length-set firsts count 0);
      next_room = omega arith;
      previous_room = omega arith;
      first = λ state within. more_first count links links' firsts state un linked within first_room are.first;
      next = λ state some within is.
          let apart : state ≡ count → ⊥ = λ same. omega (arith, un.gone, ap (λ (s : ℕ). get_or (set links count out) s 0) same) in
          let old : state < count = omega arith in
          let same : get_or links' state 0 ≡ get_or links state 0 = un.others state apart in
          let there : IsLastLinked links (get_or links state 0) state (get_or nexts state 0) = are.next state some old (linked state old) in
          let P : ℕ → Type 0 = λ l. IsLastLinked (set links count out) l state (get_or nexts state 0) in
          subst P (sym same)
          (last_without (count + 1) links links' count (get_or links state 0) state (get_or nexts state 0) un (omega (arith, linked state old))
          (λ positive is_count. omega (arith, there.before positive)) there);
      back = λ state some within is.
          let apart : state ≡ count → ⊥ = λ same. omega (arith, un.gone, ap (λ (s : ℕ). get_or (set links count out) s 0) same) in
          let old : state < count = omega arith in
          let same : get_or links' state 0 ≡ get_or links state 0 = un.others state apart in
          let link : ℕ = get_or links state 0 in
          let in_count : link < count = linked state old in
          let there : IsNextLinked links link state count (get_or backs state 0) = are.back state some old in_count in
          let P : ℕ → Type 0 = λ l. IsNextLinked (set links count out) l state (count + 1) (get_or backs state 0) in
          subst P (sym same) (record {
            behind = there.behind;
            before = λ positive. omega (arith, there.before positive);
            linked = λ positive.
                let less : get_or backs state 0 < count = there.before positive in
                un.others (get_or backs state 0) (omega arith) ∙ there.linked positive;
            some = λ other above below is_linked.
                let was = was_linked (count + 1) links links' count link other un (omega arith) is_linked in
                let in_old : other < count = omega (arith, was.0) in
                there.some other above in_old was.1;
            next = λ other above below is_linked.
                let was = was_linked (count + 1) links links' count link other un (omega arith) is_linked in
                let in_old : other < count = omega (arith, was.0) in
                there.next other above in_old was.1;
          });
    }

-- states of a list are given a link one by one
pub moved_more : (links states : List ℕ) (index link : ℕ) → get_or states index 0 < length links
    → ((i : ℕ) → i < index → get_or links (get_or states i 0) 0 ≡ link)
    → (i : ℕ) → i < index + 1 → get_or (set links (get_or states index 0) link) (get_or states i 0) 0 ≡ link
moved_more links states index link within before i below =
    elim (cases_eq (get_or states i 0) (get_or states index 0)) [
      | inl same ↦
          ap (λ (s : ℕ). get_or (set links (get_or states index 0) link) s 0) same
          ∙ get_or-set_same links (get_or states index 0) link 0 within
      | inr other ↦
          let early : i < index = elim (cases_lt i index) [
            | inl early ↦ early
            | inr late ↦
                let last : i ≡ index = omega arith in
                absurd (other (ap (λ (k : ℕ). get_or states k 0) last))
          ] in
          get_or-set_other links (get_or states index 0) (get_or states i 0) link 0 other ∙ before i early
    ]

pub within_more : (links : List ℕ) (state link count : ℕ) → state < length links → link < count
    → ((s : ℕ) → s < count → get_or links s 0 < count) → (s : ℕ) → s < count → get_or (set links state link) s 0 < count
within_more links state link count within fits before s below =
    elim (cases_eq s state) [
      | inl same ↦
          omega (arith, ap (λ (s : ℕ). get_or (set links state link) s 0) same, get_or-set_same links state link 0 within)
      | inr other ↦ omega (arith, get_or-set_other links state s link 0 other, before s below)
    ]
