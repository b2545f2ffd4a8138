-- The overlaps with left sides that end what is read, along the ends.
use Rattle.std.proofs.Common.{◌≡◌, ℕ, ◌+◌, ◌-◌, ◌<◌, ◌≤◌, ◌⊎◌, List, length, drop, sym, ap, ◌∙◌, subst, inl, inr, arith, Option, Some, None, IfSome}
use Rattle.std.proofs.lemmas.Bool.{cases_lt}
use Rattle.std.proofs.lemmas.Option.{slice_get_within}
use Rattle.kb_word.specs.Words.{Pair, EndsWith}
use Rattle.kb_trie.specs.LeftSides.{IsLeastOf}
use Rattle.kb_trie.specs.States.{word}
use Rattle.kb_trie.specs.Steps.{IsLink}
use Rattle.kb_trie.proofs.Longest.{link_shorter}
use Rattle.kb_trie.proofs.Suffixes.{drop_ends, ends_length, ends_of_both, ends_shorter, ends_within}
use Rattle.kb_index.specs.Lefts.{IsLongestLeft, StandsAt, left_at, lefts_of}
use Rattle.kb_overlap.specs.declared.left_sides.Overlap.{Overlap}
use Rattle.kb_overlap.specs.Prefixes.{AreWordsOf}
use Rattle.kb_overlap.specs.Ways.{EndsRead, Gains, HasLeft, IsOther}
use Rattle.kb_overlap.proofs.Gaining.{gains_none, gains_same, gains_then}
use Rattle.kb_overlap.proofs.Suffixed.{IsLeft, left_stands, longer_some, stands_left}

-- the place comes before the next one, if there is one
abbrev pub ComesBefore : Option ℕ → ℕ → Type 0
ComesBefore next place = IfSome next (λ at. place < at)

least_is : (These : ℕ → Type 0) (from : ℕ) (next : Option ℕ) → IsLeastOf These from next → IfSome next These
least_is These from None none = tt
least_is These from (Some at) least = least.is

-- the next place comes after this one and those before it
comes_before : (These : ℕ → Type 0) (from place : ℕ) (next : Option ℕ) → IsLeastOf These from next → place < from → ComesBefore next place
comes_before These from place None none earlier = tt
comes_before These from place (Some at) least earlier = omega (arith, least.behind)

-- of these places those before the next one are before the first that was looked at
comes_early : (These : ℕ → Type 0) (from place : ℕ) (next : Option ℕ) → IsLeastOf These from next → These place → ComesBefore next place
    → place < from
comes_early These from place None none is before =
    elim (cases_lt place from) [
      | inl earlier ↦ earlier
      | inr late ↦ absurd (none place late is)
    ]
comes_early These from place (Some at) least is before =
    elim (cases_lt place from) [
      | inl earlier ↦ earlier
      | inr late ↦ absurd (let no : ⊥ = omega (arith, least.least place late is) in no)
    ]

-- how many places are left from the next one on
abbrev pub places_left : ℕ → Option ℕ → ℕ
places_left count None = 0
places_left count (Some at) = count - at

fewer_from : (These : ℕ → Type 0) (count place : ℕ) (next : Option ℕ) → place < count → IsLeastOf These (place + 1) next
    → places_left count next < count - place
fewer_from These count place None within none = omega arith
fewer_from These count place (Some at) within least = omega (arith, least.behind)

-- an overlap with a rule that has the left side and comes before the next such one
pub record IsPassed (rules : List Pair) (index : ℕ) (left : List ℕ) (place : ℕ) (next : Option ℕ) (one : Overlap) : Type 0 where
  pub has : HasLeft rules index left place one
  pub before : ComesBefore next one.rule

-- along the rules that have a left side: the overlaps with those that were passed are added
pub record Passing (rules : List Pair) (index : ℕ) (left : List ℕ) (place : ℕ) (next : Option ℕ) (before now : List Overlap) : Type 0 where
  pub is : IfSome next (StandsAt (lefts_of rules) left)
  pub gains : Gains (IsPassed rules index left place next) before now

has_stands : (rules : List Pair) (index : ℕ) (left : List ℕ) (place : ℕ) (one : Overlap) → HasLeft rules index left place one
    → StandsAt (lefts_of rules) left one.rule
has_stands rules index left place one has =
    let P : List ℕ → Type 0 = λ v. StandsAt (lefts_of rules) v one.rule in
    subst P has.is_left (left_stands rules one.rule has.within)

pub passing_first : (rules : List Pair) (index : ℕ) (left : List ℕ) (place : ℕ) (next : Option ℕ) (xs : List Overlap)
    → IsLeastOf (StandsAt (lefts_of rules) left) 0 next → Passing rules index left place next xs xs
passing_first rules index left place next xs least =
    let These : ℕ → Type 0 = StandsAt (lefts_of rules) left in
    record {
      is = least_is These 0 next least;
      gains = gains_none (IsPassed rules index left place next) xs (λ one passed.
          let early : one.rule < 0 =
          comes_early These 0 one.rule next least (has_stands rules index left place one passed.has) passed.before in
          let no : ⊥ = omega arith in no);
    }

-- this rule has the left side, and then the next one
pub record IsAt (rules : List Pair) (left : List ℕ) (rule : ℕ) (next : Option ℕ) : Type 0 where
  pub here : IsLeft rules left rule
  pub least : IsLeastOf (StandsAt (lefts_of rules) left) (rule + 1) next

pub passing_at : (rules : List Pair) (lefts : List (List ℕ)) → lefts ≡ lefts_of rules → (left : List ℕ) (now next : Option ℕ) (rule : ℕ)
    → IfSome now (StandsAt (lefts_of rules) left) → now ≡ Some rule
    → ((v : List ℕ) → StandsAt lefts v rule → IsLeastOf (StandsAt lefts v) (rule + 1) next) → IsAt rules left rule next
passing_at rules lefts same left now next rule some is least =
    let P : Option ℕ → Type 0 = λ at. IfSome at (StandsAt (lefts_of rules) left) in
    let Q : List (List ℕ) → Type 0 = λ all. (v : List ℕ) → StandsAt all v rule → IsLeastOf (StandsAt all v) (rule + 1) next in
    let stands : StandsAt (lefts_of rules) left rule = subst P is some in
    record { here = stands_left rules left rule stands; least = subst Q same least left stands }

-- the rule is one of those whose left sides the list has
pub passing_within : (rules : List Pair) (lefts : List (List ℕ)) → lefts ≡ lefts_of rules → (left : List ℕ) (now : Option ℕ) (rule : ℕ)
    → IfSome now (StandsAt (lefts_of rules) left) → now ≡ Some rule → rule < length lefts
passing_within rules lefts same left now rule some is =
    let P : Option ℕ → Type 0 = λ at. IfSome at (StandsAt (lefts_of rules) left) in
    let within = slice_get_within (lefts_of rules) rule left (subst P is some) in
    omega (arith, ap length same)

pub fewer_left : (rules : List Pair) (left : List ℕ) (now next : Option ℕ) (rule : ℕ) → now ≡ Some rule → IsAt rules left rule next
    → places_left (length rules) next < places_left (length rules) now
fewer_left rules left now next rule is at =
    let P : Option ℕ → Type 0 = λ from. places_left (length rules) next < places_left (length rules) from in
    subst P (sym is) (fewer_from (StandsAt (lefts_of rules) left) (length rules) rule next at.here.within at.least)

pub passing_more : (rules : List Pair) (index : ℕ) (left : List ℕ) (place : ℕ) (now next : Option ℕ) (rule : ℕ) (xs ys zs : List Overlap)
    → Passing rules index left place now xs ys → now ≡ Some rule → IsAt rules left rule next
    → Gains (IsOther index rule place) ys zs → Passing rules index left place next xs zs
passing_more rules index left place now next rule xs ys zs passing is_now at added =
    let These : ℕ → Type 0 = StandsAt (lefts_of rules) left in
    let P : Option ℕ → Type 0 = λ from. Gains (IsPassed rules index left place from) xs ys in
    let least : IsLeastOf These (rule + 1) next = at.least in
    let here = at.here in
    record {
      is = least_is These (rule + 1) next least;
      gains = gains_then (IsPassed rules index left place (Some rule)) (IsOther index rule place) (IsPassed rules index left place next) xs ys zs
          (subst P is_now passing.gains) added
          (λ one passed.
          let earlier : one.rule < rule = passed.before in
          record { has = passed.has; before = comes_before These (rule + 1) one.rule next least (omega arith) })
          (λ one is.
          let same : one.rule ≡ rule = is.is_rule in
          record {
            has = record {
              within = omega (arith, here.within);
              is_left = ap (left_at rules) is.is_rule ∙ here.is;
              at = is.at;
              other = is.other;
            };
            before = comes_before These (rule + 1) one.rule next least (omega arith);
          })
          (λ one passed.
          let upto : one.rule < rule + 1 =
          comes_early These (rule + 1) one.rule next least (has_stands rules index left place one passed.has) passed.before in
          elim (cases_lt one.rule rule) [
            | inl earlier ↦ inl (record { has = passed.has; before = earlier })
            | inr late ↦
                inr (record {
                  is_rule = omega arith;
                  at = passed.has.at;
                  other = passed.has.other;
                })
          ]);
    }

pub passing_all : (rules : List Pair) (index : ℕ) (left : List ℕ) (place : ℕ) (now : Option ℕ) (xs ys : List Overlap)
    → Passing rules index left place now xs ys → now ≡ None → Gains (HasLeft rules index left place) xs ys
passing_all rules index left place now xs ys passing is_now =
    let P : Option ℕ → Type 0 = λ from. Gains (IsPassed rules index left place from) xs ys in
    gains_same (IsPassed rules index left place None) (HasLeft rules index left place) xs ys (λ one passed. passed.has)
    (λ one has. record { has = has; before = tt }) (subst P is_now passing.gains)

-- a left side that ends what is read, and is longer than that of the end
pub record EndsLater (rules : List Pair) (index : ℕ) (w : List ℕ) (read beyond least : ℕ) (one : Overlap) : Type 0 where
  pub ends : EndsRead rules index w read beyond one
  pub later : least < length (left_at rules one.rule)

-- along the ends: the overlaps with longer left sides are added
pub record Ending (rules : List Pair) (words : List (List ℕ)) (index state read beyond end : ℕ) (before now : List Overlap) : Type 0 where
  pub within : end < length words
  pub ends : EndsWith (word words state) (word words end)
  pub gains : Gains (EndsLater rules index (word words state) read beyond (length (word words end))) before now

pub ending_first : (rules : List Pair) (words : List (List ℕ)) (index state read beyond end : ℕ) (xs : List Overlap)
    → IsLongestLeft words (lefts_of rules) state end → Ending rules words index state read beyond end xs xs
ending_first rules words index state read beyond end xs is = record {
  within = is.within;
  ends = is.ends;
  gains = gains_none (EndsLater rules index (word words state) read beyond (length (word words end))) xs (λ one later.
      let left : List ℕ = left_at rules one.rule in
      let there = is.longest one.rule left (left_stands rules one.rule later.ends.within) later.ends.ends in
      let fits = ends_length (word words end) left there in
      let more = later.later in
      omega arith);
}

pub ending_all : (rules : List Pair) (words : List (List ℕ)) (index state read beyond end : ℕ) (xs ys : List Overlap)
    → length (word words end) ≤ beyond → Ending rules words index state read beyond end xs ys
    → Gains (EndsRead rules index (word words state) read beyond) xs ys
ending_all rules words index state read beyond end xs ys done ending =
    gains_same (EndsLater rules index (word words state) read beyond (length (word words end)))
    (EndsRead rules index (word words state) read beyond) xs ys (λ one later. later.ends)
    (λ one ends. record { ends = ends; later = let longer = ends.longer in omega arith }) ending.gains

-- the next end is that of the link
pub record IsNextEnd (rules : List Pair) (words : List (List ℕ)) (end next : ℕ) : Type 0 where
  pub link : ℕ
  pub is_link : IsLink words end link
  pub is : IsLongestLeft words (lefts_of rules) link next

module _ {rules : List Pair} {words : List (List ℕ)} (known : AreWordsOf rules words) where
  -- its word is shorter
  pub next_shorter : (end beyond next : ℕ) → beyond < length (word words end) → end < length words → IsNextEnd rules words end next
      → length (word words next) < length (word words end)
  next_shorter end beyond next longer within is =
      let shorter = link_shorter words known.are end is.link (longer_some known end beyond longer) within is.is_link in
      omega (arith, ends_length (word words is.link) (word words next) is.is.ends)

  -- a left side that ends the state's word is all of it, or ends that of the next end
  left_to_next : (end next place : ℕ) → place < length rules → IsNextEnd rules words end next
      → EndsWith (word words end) (left_at rules place)
      → (left_at rules place ≡ word words end) ⊎ EndsWith (word words next) (left_at rules place)
  left_to_next end next place in_rules is ends =
      let left : List ℕ = left_at rules place in
      elim (ends_shorter (word words end) left ends) [
        | inl same ↦ inl same
        | inr shorter ↦
            let stands : StandsAt (lefts_of rules) left place = left_stands rules place in_rules in
            let has = known.lefts.states place left stands in
            let P : List ℕ → Type 0 = λ v. EndsWith (drop 1 (word words end)) v in
            let Q : List ℕ → Type 0 = λ v. EndsWith (word words is.link) v in
            let there : EndsWith (word words is.link) left =
            subst Q has.1.is (is.is_link.longest.longest has.0 has.1.within (subst P (sym has.1.is) shorter)) in
            inr (is.is.longest place left stands there)
      ]

  pub ending_more : (index state read beyond end next : ℕ) (xs ys zs : List Overlap) → length (word words state) ≤ read
      → beyond < length (word words end) → IsNextEnd rules words end next → Ending rules words index state read beyond end xs ys
      → Gains (HasLeft rules index (word words end) (read - length (word words end))) ys zs
      → Ending rules words index state read beyond next xs zs
  ending_more index state read beyond end next xs ys zs upto longer is ending added =
      let w : List ℕ = word words state in
      let v : List ℕ = word words end in
      let l : List ℕ = word words is.link in
      let n : List ℕ = word words next in
      let shorter : length n < length v = next_shorter end beyond next longer ending.within is in
      let in_w : length v ≤ length w = ends_length w v ending.ends in
      let in_v : EndsWith v n = ends_within v (drop 1 v) n (drop_ends v) (ends_within (drop 1 v) l n is.is_link.longest.ends is.is.ends) in
      record {
        within = is.is.within;
        ends = ends_within w v n ending.ends in_v;
        gains = gains_then (EndsLater rules index w read beyond (length v)) (HasLeft rules index v (read - length v))
            (EndsLater rules index w read beyond (length n)) xs ys zs ending.gains added
            (λ one later. record { ends = later.ends; later = let more = later.later in omega arith })
            (λ one has.
            let long : length (left_at rules one.rule) ≡ length v = ap length has.is_left in
            let at : one.place ≡ read - length v = has.at in
            let P : List ℕ → Type 0 = λ left. EndsWith w left in
            record {
              ends = record {
                within = has.within;
                ends = subst P (sym has.is_left) ending.ends;
                longer = omega arith;
                upto = omega arith;
                other = has.other;
              };
              later = omega arith;
            })
            (λ one later.
            let left : List ℕ = left_at rules one.rule in
            elim (cases_lt (length v) (length left)) [
              | inl more ↦ inl (record { ends = later.ends; later = more })
              | inr fits ↦
                  let inner : EndsWith v left = ends_of_both w v left ending.ends later.ends.ends fits in
                  elim (left_to_next end next one.rule later.ends.within is inner) [
                    | inl same ↦
                        let long : length left ≡ length v = ap length same in
                        let at : one.place + length left ≡ read = later.ends.upto in
                        inr (record {
                          within = later.ends.within;
                          is_left = same;
                          at = omega arith;
                          other = later.ends.other;
                        })
                    | inr deeper ↦
                        let short = ends_length n left deeper in
                        let more = later.later in
                        absurd (let no : ⊥ = omega arith in no)
                  ]
            ]);
      }
