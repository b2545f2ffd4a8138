-- Words that are added beside states with labels.
use Rattle.std.proofs.Common.{◌≡◌, ◌⊎◌, ℕ, ◌<◌, List, [], ◌∷◌, ◌++◌, length, get_or, slice_get, set, Bool, true, false, not, if◌then◌else◌, true≢false, Some, refl, sym, ap, ◌∙◌, subst, inl, inr, arith, length-append}
use Rattle.std.proofs.lemmas.Bool.{cases_eq}
use Rattle.std.proofs.lemmas.List.{get_or_default, get_or-set_same, get_or-set_other, length-set}
use Rattle.std.proofs.lemmas.Option.{same_Some, slice_get_within, get_or_from_slice_get, slice_get-get_or}
use Rattle.std.specs.List.{list_any}
use Rattle.indexmap.specs.IndexSet.{insert_key}
use Rattle.kb_word.specs.Words.{IsEarlier, Less, shorter, earlier}
use Rattle.kb_word.specs.ShortlexLaws.{shortlex_transitive, shortlex_total}
use Rattle.kb_explore.proofs.Lists.{item_kept, item_cases, last_item}
use Rattle.kb_labels.specs.declared.config.Config.{Config}
use Rattle.kb_labels.specs.Layers.{Covers, Adds, IsOne, KeepsLesser}
use Rattle.kb_labels.specs.Layers.KeepsLesser.{new_lesser, old_stays}

earlier_continued : (u v more others : List ℕ) → IsEarlier u v → IsEarlier (u ++ more) (v ++ others)
earlier_continued [] v more others h = absurd h
earlier_continued (x ∷ u) [] more others h = absurd h
earlier_continued (x ∷ u) (y ∷ v) more others (inl h) = inl h
earlier_continued (x ∷ u) (y ∷ v) more others (inr h) = inr (h.0, earlier_continued u v more others h.1)

-- a lesser word is lesser with a letter more, whichever it is
pub less_continued : (u v : List ℕ) (x y : ℕ) → Less u v → Less (u ++ x ∷ []) (v ++ y ∷ [])
less_continued u v x y (shorter h) =
    let one = length-append u (x ∷ []) in
    let two = length-append v (y ∷ []) in
    shorter (omega arith)
less_continued u v x y (earlier e h) =
    let one = length-append u (x ∷ []) in
    let two = length-append v (y ∷ []) in
    earlier (omega arith) (earlier_continued u v (x ∷ []) (y ∷ []) h)

-- what is read at a place stands there
pub read_word : (words : List (List ℕ)) (index : ℕ) (word : List ℕ) → index < length words → word ≡ get_or words index word
    → word ≡ get_or words index []
read_word words index word within is = is ∙ get_or_default words index word [] within

pub read_item : {X : Type 0} (items : List X) (index : ℕ) (item : X) → index < length items → item ≡ get_or items index item
    → slice_get items index ≡ Some item
read_item items index item within is = slice_get-get_or items index item within ∙ ap (λ x. Some x) (sym is)

-- words that are equal or less are so through others
pub at_most_through : (u v w : List ℕ) → (u ≡ v) ⊎ Less u v → (v ≡ w) ⊎ Less v w → (u ≡ w) ⊎ Less u w
at_most_through u v w (inl same) rest = let P : List ℕ → Type 0 = λ z. (z ≡ w) ⊎ Less z w in subst P (sym same) rest
at_most_through u v w (inr less) (inl same) = let P : List ℕ → Type 0 = λ z. Less u z in inr (subst P same less)
at_most_through u v w (inr less) (inr more) = inr (shortlex_transitive u v w less more)

-- what isn't less is the other or greater
pub at_most : (u v : List ℕ) → ¬ Less v u → (u ≡ v) ⊎ Less u v
at_most u v not_less = elim (shortlex_total u v) [
  | inl same ↦ inl same
  | inr differ ↦ elim differ [
    | inl less ↦ inr less
    | inr more ↦ absurd (not_less more)
  ]
]

-- no new word
pub adds_nothing : (New : Config → List ℕ → Type 0) (configs : List Config) (words : List (List ℕ)) → length words ≡ length configs
    → ((config : Config) (word : List ℕ) → ¬ New config word) → Adds New configs words configs words
adds_nothing New configs words one_each none = record {
  one_each = one_each;
  sound = λ config word entry. inl entry;
  kept = λ config word covers. covers;
  added = λ config word new. absurd (none config word new);
}

-- the same new words in other terms
pub adds_same : (New Other : Config → List ℕ → Type 0) (configs : List Config) (words : List (List ℕ)) (configs' : List Config)
    (words' : List (List ℕ)) → ((config : Config) (word : List ℕ) → New config word → Other config word)
    → ((config : Config) (word : List ℕ) → Other config word → New config word)
    → Adds New configs words configs' words' → Adds Other configs words configs' words'
adds_same New Other configs words configs' words' forth back adds = record {
  one_each = adds.one_each;
  sound = λ config word entry. elim (adds.sound config word entry) [
    | inl old ↦ inl old
    | inr new ↦ inr (forth config word new)
  ];
  kept = adds.kept;
  added = λ config word new. adds.added config word (back config word new);
}

-- new words after others
pub adds_then : (One Two New : Config → List ℕ → Type 0) (configs : List Config) (words : List (List ℕ)) (configs' : List Config)
    (words' : List (List ℕ)) (configs'' : List Config) (words'' : List (List ℕ))
    → ((config : Config) (word : List ℕ) → One config word → New config word)
    → ((config : Config) (word : List ℕ) → Two config word → New config word)
    → ((config : Config) (word : List ℕ) → New config word → One config word ⊎ Two config word)
    → Adds One configs words configs' words' → Adds Two configs' words' configs'' words'' → Adds New configs words configs'' words''
adds_then One Two New configs words configs' words' configs'' words'' first second cases one two = record {
  one_each = two.one_each;
  sound = λ config word entry. elim (two.sound config word entry) [
    | inl old ↦ elim (one.sound config word old) [
      | inl older ↦ inl older
      | inr new ↦ inr (first config word new)
    ]
    | inr new ↦ inr (second config word new)
  ];
  kept = λ config word covers. two.kept config word (one.kept config word covers);
  added = λ config word new. elim (cases config word new) [
    | inl by_one ↦ two.kept config word (one.added config word by_one)
    | inr by_two ↦ two.added config word by_two
  ];
}

module _ (config : Config) (word : List ℕ) (configs : List Config) (words : List (List ℕ)) (one_each : length words ≡ length configs) where
  -- beside a new state with its label
  pub adds_pushed : Adds (IsOne config word) configs words (configs ++ config ∷ []) (words ++ word ∷ [])
  adds_pushed = record {
    one_each = let one = length-append words (word ∷ []) in let two = length-append configs (config ∷ []) in omega arith;
    sound = λ other more entry. elim (item_cases configs config entry.place other entry.config_at) [
      | inl old ↦ elim (item_cases words word entry.place more entry.word_at) [
        | inl also ↦ inl (record { place = entry.place; config_at = old; word_at = also })
        | inr last ↦ (
            let within = slice_get_within configs entry.place other old in let at = last.0 in absurd (let no : ⊥ = omega arith in no)
            )
      ]
      | inr last ↦ elim (item_cases words word entry.place more entry.word_at) [
        | inl also ↦ (
            let within = slice_get_within words entry.place more also in let at = last.0 in absurd (let no : ⊥ = omega arith in no)
            )
        | inr also ↦ inr (last.1, also.1)
      ]
    ];
    kept = λ other more covers. record {
      own = covers.own;
      entry = record {
        place = covers.entry.place;
        config_at = item_kept configs config covers.entry.place other covers.entry.config_at;
        word_at = item_kept words word covers.entry.place covers.own covers.entry.word_at;
      };
      at_most = covers.at_most;
    };
    added = λ other more is.
        let P : Config → Type 0 = λ c. Covers (configs ++ config ∷ []) (words ++ word ∷ []) c more in
        let at : slice_get (words ++ word ∷ []) (length configs) ≡ Some word =
        ap (slice_get (words ++ word ∷ [])) (sym one_each) ∙ last_item words word in
        subst P (sym is.0) (record {
          own = word;
          entry = record { place = length configs; config_at = last_item configs config; word_at = at };
          at_most = inl (sym is.1);
        });
  }

  module _ (index : ℕ) (there : slice_get configs index ≡ Some config) where
    within : index < length words
    within = let inside = slice_get_within configs index config there in omega arith

    at_index : slice_get words index ≡ Some (get_or words index [])
    at_index = slice_get-get_or words index [] within

    -- the word that stands there stays
    pub adds_left : ¬ Less word (get_or words index []) → Adds (IsOne config word) configs words configs words
    adds_left not_less = record {
      one_each = one_each;
      sound = λ other more entry. inl entry;
      kept = λ other more covers. covers;
      added = λ other more is.
          let P : Config → Type 0 = λ c. Covers configs words c more in
          let Q : List ℕ → Type 0 = λ w. Covers configs words config w in
          subst P (sym is.0) (subst Q (sym is.1) (record {
            own = get_or words index [];
            entry = record { place = index; config_at = there; word_at = at_index };
            at_most = at_most (get_or words index []) word not_less;
          }));
    }

    set_there : slice_get (set words index word) index ≡ Some word
    set_there =
        let inside : index < length (set words index word) = omega (arith, length-set words index word, within) in
        slice_get-get_or (set words index word) index [] inside
        ∙ ap (λ w. Some w) (get_or-set_same words index word [] within)

    set_elsewhere : (place : ℕ) (more : List ℕ) → (place ≡ index → ⊥) → slice_get words place ≡ Some more
        → slice_get (set words index word) place ≡ Some more
    set_elsewhere place more apart is =
        let old = slice_get_within words place more is in
        let inside : place < length (set words index word) = omega (arith, length-set words index word, old) in
        slice_get-get_or (set words index word) place [] inside
        ∙ ap (λ w. Some w) (get_or-set_other words index place word [] apart ∙ get_or_from_slice_get words place more [] is)

    was_elsewhere : (place : ℕ) (more : List ℕ) → (place ≡ index → ⊥) → slice_get (set words index word) place ≡ Some more
        → slice_get words place ≡ Some more
    was_elsewhere place more apart is =
        let now = slice_get_within (set words index word) place more is in
        let inside : place < length words = omega (arith, length-set words index word, now) in
        slice_get-get_or words place [] inside
        ∙ ap (λ w. Some w) (sym (get_or-set_other words index place word [] apart) ∙ get_or_from_slice_get (set words index word) place more [] is)

    -- the lesser word takes its place
    pub adds_replaced : Less word (get_or words index []) → Adds (IsOne config word) configs words configs (set words index word)
    adds_replaced less = record {
      one_each = length-set words index word ∙ one_each;
      sound = λ other more entry. elim (cases_eq entry.place index) [
        | inl same ↦ (
            let P : ℕ → Type 0 = λ k. slice_get configs k ≡ Some other in
            let Q : ℕ → Type 0 = λ k. slice_get (set words index word) k ≡ Some more in
            inr (
              same_Some other config (sym (subst P same entry.config_at) ∙ there),
              same_Some more word (sym (subst Q same entry.word_at) ∙ set_there),
            )
            )
        | inr apart ↦
            inl (record { place = entry.place; config_at = entry.config_at; word_at = was_elsewhere entry.place more apart entry.word_at })
      ];
      kept = λ other more covers. elim (cases_eq covers.entry.place index) [
        | inl same ↦ (
            let P : ℕ → Type 0 = λ k. slice_get configs k ≡ Some other in
            let Q : ℕ → Type 0 = λ k. slice_get words k ≡ Some covers.own in
            let own : get_or words index [] ≡ covers.own = get_or_from_slice_get words index covers.own [] (subst Q same covers.entry.word_at) in
            let R : List ℕ → Type 0 = λ w. Less word w in
            record {
              own = word;
              entry = record { place = index; config_at = subst P same covers.entry.config_at; word_at = set_there };
              at_most = at_most_through word covers.own more (inr (subst R own less)) covers.at_most;
            }
            )
        | inr apart ↦ (
            record {
              own = covers.own;
              entry = record {
                place = covers.entry.place;
                config_at = covers.entry.config_at;
                word_at = set_elsewhere covers.entry.place covers.own apart covers.entry.word_at;
              };
              at_most = covers.at_most;
            }
            )
      ];
      added = λ other more is.
          let P : Config → Type 0 = λ c. Covers configs (set words index word) c more in
          subst P (sym is.0)
          (record { own = word; entry = record { place = index; config_at = there; word_at = set_there }; at_most = inl (sym is.1) });
    }

    pub adds_lesser : (words' : List (List ℕ)) → KeepsLesser words index word words' → Adds (IsOne config word) configs words configs words'
    adds_lesser words' (new_lesser less) = adds_replaced less
    adds_lesser words' (old_stays not_less) = adds_left not_less

  -- the state with its label is inserted into a set
  module _ (eq : Config → Config → Bool) (same : (one two : Config) → eq one two ≡ true → one ≡ two) (configs' : List Config) (is_new : Bool)
      (is : is_new ≡ not (list_any (eq config) configs)) (keys : configs' ≡ insert_key eq configs config) where
    keys_kept : is_new ≡ false → configs' ≡ configs
    keys_kept old = by (list_any (eq config) configs) refl
      where
        by : (b : Bool) → list_any (eq config) configs ≡ b → configs' ≡ configs
        by true e = keys ∙ ap (λ b. if b then configs else configs ++ config ∷ []) e
        by false e = absurd (true≢false (sym (is ∙ ap not e) ∙ old))

    keys_added : is_new ≡ true → configs' ≡ configs ++ config ∷ []
    keys_added new = by (list_any (eq config) configs) refl
      where
        by : (b : Bool) → list_any (eq config) configs ≡ b → configs' ≡ configs ++ config ∷ []
        by true e = absurd (true≢false (sym new ∙ is ∙ ap not e))
        by false e = keys ∙ ap (λ b. if b then configs else configs ++ config ∷ []) e

    pub adds_new : (words' : List (List ℕ)) → is_new ≡ true → words' ≡ words ++ word ∷ [] → Adds (IsOne config word) configs words configs' words'
    adds_new words' new pushed =
        let P : List Config → Type 0 = λ cs. Adds (IsOne config word) configs words cs words' in
        let Q : List (List ℕ) → Type 0 = λ ws. Adds (IsOne config word) configs words (configs ++ config ∷ []) ws in
        subst P (sym (keys_added new)) (subst Q (sym pushed) adds_pushed)

    pub is_within : (index : ℕ) → is_new ≡ false → index < length configs' → index < length words
    is_within index old inside =
        let kept = ap length (keys_kept old) in omega (arith, one_each)

    pub adds_old : (index : ℕ) (words' : List (List ℕ)) → is_new ≡ false
        → (k : Config) × (slice_get configs' index ≡ Some k) × (eq config k ≡ true)
        → KeepsLesser words index word words' → Adds (IsOne config word) configs words configs' words'
    adds_old index words' old stored keeps =
        let P : List Config → Type 0 = λ cs. Adds (IsOne config word) configs words cs words' in
        let there : slice_get configs index ≡ Some config =
        ap (λ cs. slice_get cs index) (sym (keys_kept old)) ∙ stored.1 ∙ ap (λ c. Some c) (sym (same config stored.0 stored.2)) in
        subst P (sym (keys_kept old)) (adds_lesser index there words' keeps)
