-- Two replacements in one word: they commute, or they lead to a critical pair, or they are one.
use Rattle.std.proofs.Common.{◌≡◌, ℕ, ◌+◌, ◌-◌, List, [], ◌++◌, length, take, drop, Some, refl, sym, ◌∙◌, ap, subst, arith, append_assoc}
use Rattle.std.specs.Prelude.{slice_get}
use Rattle.std.proofs.lemmas.List.{append-nil, drop_all}
use Rattle.std.proofs.lemmas.Option.{same_Some}
use Rattle.kb_word.specs.Words.{Pair, OneOf}
use Rattle.kb_word.specs.Congruence.{Replaces}
use Rattle.kb_word.specs.Rewriting.{ReducesTo}
use Rattle.kb_word.specs.Overlap.{IsResolved, critical_pair, superposition}
use Rattle.kb_word.proofs.PathLemmas.{path_one, reduces_between}
use Rattle.kb_rules.proofs.Reducts.{normal_form_reduct}
use Rattle.kb_overlap.proofs.Occurrences.{Apart, Within}

-- one word to which both reduce
pub record CommonReduct (allowed : Pair → Type 0) (u v : List ℕ) : Type 0 where
  pub joint : List ℕ
  pub left : ReducesTo allowed u joint
  pub right : ReducesTo allowed v joint

-- replacements that are apart commute
pub common_apart : {allowed : Pair → Type 0} {w u v : List ℕ} (f : Replaces allowed w u) (g : Replaces allowed w v)
    → Apart f.before f.pair.0 f.after g.before g.pair.0 g.after → CommonReduct allowed u v
common_apart {u = u} {v = v} f g places =
    let l = f.pair.0 in let r = f.pair.1 in let m = g.pair.0 in let s = g.pair.1 in
    let middle = places.between in
    let second : u ≡ (f.before ++ r ++ middle) ++ m ++ g.after =
    f.to ∙ ap (λ rest. f.before ++ r ++ rest) places.after_is ∙ simp append_assoc in
    let first : v ≡ f.before ++ l ++ (middle ++ s ++ g.after) =
    g.to ∙ ap (λ front. front ++ s ++ g.after) places.front_is ∙ simp append_assoc in
    let both : f.before ++ r ++ (middle ++ s ++ g.after) ≡ (f.before ++ r ++ middle) ++ s ++ g.after = simp append_assoc in
    record {
      joint = (f.before ++ r ++ middle) ++ s ++ g.after;
      left = path_one (record { before = f.before ++ r ++ middle; pair = g.pair; after = g.after; is_allowed = g.is_allowed; from = second; to = refl });
      right = path_one (record { before = f.before; pair = f.pair; after = middle ++ s ++ g.after; is_allowed = f.is_allowed; from = first; to = sym both });
    }

-- where m begins within l, the word is their superposition between other words
pub superposed_within : {allowed : Pair → Type 0} {w u v : List ℕ} (f : Replaces allowed w u) (g : Replaces allowed w v)
    → (places : Within f.before f.pair.0 f.after g.before g.pair.0 g.after)
    → w ≡ f.before ++ superposition f.pair.0 g.pair.0 places.place ++ places.rest
superposed_within f g places = f.from ∙ ap (λ after. f.before ++ f.pair.0 ++ after) places.after_is ∙ simp append_assoc

-- a pair that is joined has a common reduct between other words too
joined_between : {rules : List Pair} {pair : Pair} (before after : List ℕ) → IsResolved rules pair
    → CommonReduct (OneOf rules) (before ++ pair.0 ++ after) (before ++ pair.1 ++ after)
joined_between before after joined = record {
  joint = before ++ joined.joint ++ after;
  left = reduces_between before after (normal_form_reduct joined.left);
  right = reduces_between before after (normal_form_reduct joined.right);
}

common_along : {allowed : Pair → Type 0} (u v u' v' : List ℕ) → u ≡ u' → v ≡ v' → CommonReduct allowed u' v' → CommonReduct allowed u v
common_along {allowed = allowed} u v u' v' e f common =
    let P : List ℕ → Type 0 = λ w. CommonReduct allowed w v in
    let Q : List ℕ → Type 0 = λ w. CommonReduct allowed u' w in
    subst P (sym e) (subst Q (sym f) common)

-- replacements whose critical pair is joined lead to a common reduct
pub common_overlapping : {rules : List Pair} {w u v : List ℕ} (f : Replaces (OneOf rules) w u) (g : Replaces (OneOf rules) w v)
    → (places : Within f.before f.pair.0 f.after g.before g.pair.0 g.after)
    → IsResolved rules (critical_pair f.pair g.pair places.place) → CommonReduct (OneOf rules) u v
common_overlapping {rules = rules} {u = u} {v = v} f g places joined =
    let p = places.place in
    let pair : Pair = critical_pair f.pair g.pair p in
    let first : u ≡ f.before ++ pair.0 ++ places.rest =
    f.to ∙ ap (λ after. f.before ++ f.pair.1 ++ after) places.after_is ∙ simp append_assoc in
    let second : v ≡ f.before ++ pair.1 ++ places.rest =
    g.to ∙ ap (λ front. front ++ g.pair.1 ++ g.after) places.front_is
    ∙ ap (λ behind. f.before ++ take p f.pair.0 ++ g.pair.1 ++ behind) places.behind_is ∙ simp append_assoc in
    common_along u v (f.before ++ pair.0 ++ places.rest) (f.before ++ pair.1 ++ places.rest) first second
    (joined_between {rules = rules} {pair = pair} f.before places.rest joined)

-- rules of one number are one rule
pub one_rule : (rules : List Pair) (i j : ℕ) (pair other : Pair) → slice_get rules i ≡ Some pair → slice_get rules j ≡ Some other → i ≡ j → pair ≡ other
one_rule rules i j pair other first second e = same_Some pair other (sym first ∙ ap (slice_get rules) e ∙ second)

same_replacement : (before l after front m behind rest r s : List ℕ) → l ≡ m → r ≡ s → front ≡ before ++ []
    → after ≡ drop (length l) m ++ rest → behind ≡ drop (length m) l ++ rest → before ++ r ++ after ≡ front ++ s ++ behind
same_replacement before l after front m behind rest r s e f front_is after_is behind_is =
    let none : drop (length l) m ≡ [] = drop_all (length l) m (let long : length l ≡ length m = ap length e in omega arith) in
    let none' : drop (length m) l ≡ [] = drop_all (length m) l (let long : length l ≡ length m = ap length e in omega arith) in
    let after_rest : after ≡ rest = after_is ∙ ap (λ d. d ++ rest) none in
    let behind_rest : behind ≡ rest = behind_is ∙ ap (λ d. d ++ rest) none' in
    let front_before : front ≡ before = front_is ∙ append-nil before in
    cc

-- one rule at one place gives one word
pub same_within : (rules : List Pair) {w u v : List ℕ} (f : Replaces (OneOf rules) w u) (g : Replaces (OneOf rules) w v)
    → (places : Within f.before f.pair.0 f.after g.before g.pair.0 g.after) → places.place ≡ 0 → f.pair ≡ g.pair → u ≡ v
same_within rules f g places zero_place one =
    let front_is : g.before ≡ f.before ++ [] = places.front_is ∙ ap (λ p. f.before ++ take p f.pair.0) zero_place in
    let after_is : f.after ≡ drop (length f.pair.0 - 0) g.pair.0 ++ places.rest =
    places.after_is ∙ ap (λ p. drop (length f.pair.0 - p) g.pair.0 ++ places.rest) zero_place in
    let behind_is : g.after ≡ drop (0 + length g.pair.0) f.pair.0 ++ places.rest =
    places.behind_is ∙ ap (λ p. drop (p + length g.pair.0) f.pair.0 ++ places.rest) zero_place in
    let after_is' : f.after ≡ drop (length f.pair.0) g.pair.0 ++ places.rest =
    let e : length f.pair.0 - 0 ≡ length f.pair.0 = omega arith in after_is ∙ ap (λ n. drop n g.pair.0 ++ places.rest) e in
    let behind_is' : g.after ≡ drop (length g.pair.0) f.pair.0 ++ places.rest =
    let e : 0 + length g.pair.0 ≡ length g.pair.0 = omega arith in behind_is ∙ ap (λ n. drop n f.pair.0 ++ places.rest) e in
    f.to ∙ same_replacement f.before f.pair.0 f.after g.before g.pair.0 g.after places.rest f.pair.1 g.pair.1
    (ap (λ (pair : Pair). pair.0) one) (ap (λ (pair : Pair). pair.1) one) front_is after_is' behind_is'
    ∙ sym g.to
