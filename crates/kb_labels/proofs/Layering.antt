-- One layer after another, and the least word that goes wrong.
use Rattle.std.proofs.Common.{◌≡◌, ◌⊎◌, ℕ, zero, suc, ◌+◌, ◌-◌, ◌<◌, List, [], ◌∷◌, length, get_or, slice_get, Some, None, refl, sym, ap, ap₂, ◌∙◌, subst, inl, inr, arith, length-append}
use Rattle.std.proofs.lemmas.Bool.{cases_order}
use Rattle.std.proofs.lemmas.Option.{slice_get_within, get_or_from_slice_get, slice_get-get_or}
use Rattle.kb_word.specs.Words.{Less, shorter, earlier, OneOf}
use Rattle.kb_word.specs.Relations.{IsOver}
use Rattle.kb_word.specs.Rewriting.{IsIrreducible}
use Rattle.kb_word.specs.ShortlexLaws.{shortlex_transitive}
use Rattle.kb_fsa.specs.Table.{Table, IsLive}
use Rattle.kb_fsa.specs.PairSymbols.{first_letter}
use Rattle.kb_structure.proofs.Letters.{over_empty, over_last}
use Rattle.kb_diff.specs.Groups.{Group}
use Rattle.kb_leastpair.specs.LeastPair.{IsLeastWord}
use Rattle.kb_labels.specs.declared.config.Config.{Config}
use Rattle.kb_labels.specs.Layers.{Adds, IsOne, Reaches, GoesWrong, IsLayer, IsNextLayer, HaveIrreducible, IsLeastWrong, IsWrong, longer}
use Rattle.kb_labels.specs.Layers.IsLeastWrong.{none, some}
use Rattle.kb_labels.proofs.Adding.{at_most_through, less_continued}

no_item : {X : Type 0} (place : ℕ) (x : X) → slice_get [] place ≡ Some x → ⊥
no_item place x at = let within = slice_get_within [] place x at in let no : ⊥ = omega arith in no

module _ (group : Group) (table : Table) where
  -- the layer of the empty word
  pub first_layer : (config : Config) (word : List ℕ) (configs : List Config) (words : List (List ℕ)) → config.label ≡ []
      → config.state ≡ table.initial → IsLive table config.state → word ≡ [] → Adds (IsOne config word) [] [] configs words
      → IsLayer group table 0 configs words
  first_layer config word configs words label state live empty adds = record {
    one_each = adds.one_each;
    sound = λ other more entry. elim (adds.sound other more entry) [
      | inl old ↦ absurd (no_item old.place other old.config_at)
      | inr new ↦ (
          let P : Config → Type 0 = λ c. (c.label ≡ []) × ((c.state ≡ table.initial) × IsLive table c.state) in
          (new.1 ∙ empty, subst P (sym new.0) (label, (state, live)))
          )
    ];
    covers = λ other more reaches.
        let make : ℕ → List ℕ → Config = λ s l. record { state = s; label = l } in
        let same : other ≡ config = ap₂ make (reaches.1.1.0 ∙ sym state) (reaches.1.0 ∙ sym label) in
        adds.added other more (same, reaches.0 ∙ sym empty);
  }

  pub no_layer : ¬ IsLive table table.initial → IsLayer group table 0 [] []
  no_layer dead = record {
    one_each = refl;
    sound = λ other word entry. absurd (no_item entry.place other entry.config_at);
    covers = λ other word reaches. let P : ℕ → Type 0 = IsLive table in absurd (dead (subst P reaches.1.1.0 reaches.1.1.1));
  }

  -- a word that is no greater is none with a letter more
  longer_at_most : (u v : List ℕ) (symbol : ℕ) → (u ≡ v) ⊎ Less u v
      → (longer group u symbol ≡ longer group v symbol) ⊎ Less (longer group u symbol) (longer group v symbol)
  longer_at_most u v symbol (inl same) = inl (ap (λ w. longer group w symbol) same)
  longer_at_most u v symbol (inr less) = inr (less_continued u v (first_letter group.n symbol) (first_letter group.n symbol) less)

  pub next_is_layer : (size : ℕ) (configs : List Config) (words : List (List ℕ)) (configs' : List Config) (words' : List (List ℕ))
      → IsLayer group table size configs words → IsNextLayer group table configs words configs' words'
      → IsLayer group table (suc size) configs' words'
  next_is_layer size configs words configs' words' layer next = record {
    one_each = next.one_each;
    sound = λ config word entry. elim (next.sound config word entry) [
      | inl old ↦ absurd (no_item old.place config old.config_at)
      | inr new ↦ (
        new.from,
        (
          new.word,
          (
            new.comes.0,
            (
              layer.sound new.from new.word (record { place = new.place; config_at = new.config_at; word_at = new.word_at }),
              (new.comes.1.0, new.comes.1.1),
            ),
          ),
        ),
      )
    ];
    covers = λ config word reaches.
        let from = reaches.0 in
        let before : List ℕ = reaches.1.0 in
        let symbol : ℕ = reaches.1.1.0 in
        let covers = layer.covers from before reaches.1.1.1.0 in
        let own : List ℕ = covers.own in
        let there = next.added config (longer group own symbol) (record {
          place = covers.entry.place;
          early = slice_get_within words covers.entry.place own covers.entry.word_at;
          from = from;
          word = own;
          config_at = covers.entry.config_at;
          word_at = covers.entry.word_at;
          comes = (symbol, (reaches.1.1.1.1.0, refl));
        }) in
        let here = longer_at_most own before symbol covers.at_most in
        let P : List ℕ → Type 0 = λ w. (there.own ≡ w) ⊎ Less there.own w in
        record {
          own = there.own;
          entry = there.entry;
          at_most = subst P (sym reaches.1.1.1.1.1)
              (at_most_through there.own (longer group own symbol) (longer group before symbol) there.at_most here);
        };
  }

  pub reaches_over : (size : ℕ) (word : List ℕ) (config : Config) → Reaches group table size word config → IsOver group.n word
  reaches_over zero word config reaches = let P : List ℕ → Type 0 = IsOver group.n in subst P (sym reaches.0) (over_empty group.n)
  reaches_over (suc size) word config reaches =
      let P : List ℕ → Type 0 = IsOver group.n in
      let symbol : ℕ = reaches.1.1.0 in
      let before : List ℕ = reaches.1.0 in
      subst P (sym reaches.1.1.1.1.1)
      (over_last group.n before (first_letter group.n symbol) (reaches_over size before reaches.0 reaches.1.1.1.0)
      (omega arith, reaches.1.1.1.1.0.letter))

  pub reaches_length : (size : ℕ) (word : List ℕ) (config : Config) → Reaches group table size word config → length word ≡ size
  reaches_length zero word config reaches = ap length reaches.0
  reaches_length (suc size) word config reaches =
      let before : List ℕ = reaches.1.0 in
      let letter : ℕ = first_letter group.n reaches.1.1.0 in
      let count = length-append before (letter ∷ []) in
      let rest = reaches_length size before reaches.0 reaches.1.1.1.0 in
      let long = ap length reaches.1.1.1.1.1 in
      omega arith

  pub labels_irreducible : IsIrreducible (OneOf group.rules) [] → (size : ℕ) (word : List ℕ) (config : Config) → Reaches group table size word config
      → IsIrreducible (OneOf group.rules) config.label
  labels_irreducible empty zero word config reaches =
      let P : List ℕ → Type 0 = λ w. IsIrreducible (OneOf group.rules) w in subst P (sym reaches.1.0) empty
  labels_irreducible empty (suc size) word config reaches = reaches.1.1.1.1.0.turned.normal.irreducible

  pub layer_irreducible : (size : ℕ) (configs : List Config) (words : List (List ℕ)) → IsIrreducible (OneOf group.rules) []
      → IsLayer group table size configs words → HaveIrreducible group.rules configs
  layer_irreducible size configs words empty layer place config at =
      let within = slice_get_within configs place config at in
      let word = get_or words place [] in
      labels_irreducible empty size word config
      (layer.sound config word (record { place = place; config_at = at; word_at = item words place (omega (arith, layer.one_each)) }))
    where
      item : (words : List (List ℕ)) (place : ℕ) → place < length words → slice_get words place ≡ Some (get_or words place [])
      item words place within = slice_get-get_or words place [] within

  -- where no first word of the length leads anywhere, none that is longer does
  pub nothing_longer : (size : ℕ) → ((word : List ℕ) (config : Config) → ¬ Reaches group table size word config)
      → (more any : ℕ) → any ≡ more + size → (word : List ℕ) (config : Config) → ¬ Reaches group table any word config
  nothing_longer size nowhere zero any is word config reaches =
      let P : ℕ → Type 0 = λ k. Reaches group table k word config in
      let same : any ≡ size = omega arith in nowhere word config (subst P same reaches)
  nothing_longer size nowhere (suc more) zero is word config reaches = let no : ⊥ = omega arith in no
  nothing_longer size nowhere (suc more) (suc any) is word config reaches =
      nothing_longer size nowhere more any (omega arith) reaches.1.0 reaches.0 reaches.1.1.1.0

  module _ (end : List ℕ) where
    -- no word of fewer letters goes wrong
    abbrev pub NoneBefore : ℕ → Type 0
    NoneBefore size = (fewer : ℕ) (word : List ℕ) (config : Config) → fewer < size → Reaches group table fewer word config
        → ¬ GoesWrong group table end config

    -- an empty layer is the last, so that no word goes wrong
    pub none_at_all : (size : ℕ) (configs : List Config) (words : List (List ℕ)) → words ≡ [] → IsLayer group table size configs words → NoneBefore size → (any : ℕ) (word : List ℕ) (config : Config)
        → Reaches group table any word config → ¬ GoesWrong group table end config
    none_at_all size configs words empty layer before any word config reaches wrong = elim (cases_order any size) [
      | inl same ↦ (
          let P : ℕ → Type 0 = λ k. Reaches group table k word config in
          nothing_here word config (subst P same reaches)
          )
      | inr differ ↦ elim differ [
        | inl fewer ↦ before any word config fewer reaches wrong
        | inr more ↦ (
            let count : any ≡ (any - size) + size = omega arith in
            nothing_longer size nothing_here (any - size) any count word config reaches
            )
      ]
    ]
      where
        nothing_here : (word : List ℕ) (config : Config) → ¬ Reaches group table size word config
        nothing_here word config reaches =
            let covers = layer.covers config word reaches in
            let P : List (List ℕ) → Type 0 = λ ws. slice_get ws covers.entry.place ≡ Some covers.own in
            no_item covers.entry.place covers.own (subst P empty covers.entry.word_at)

    -- where no entry of the layer goes wrong, no word of its length does
    pub none_next : (size : ℕ) (configs : List Config) (words : List (List ℕ)) → IsLayer group table size configs words
        → IsLeastWrong group table end configs words (length words) None → NoneBefore size → NoneBefore (suc size)
    none_next size configs words layer (none right) before fewer word config less reaches wrong = elim (cases_order fewer size) [
      | inl same ↦ (
          let P : ℕ → Type 0 = λ k. Reaches group table k word config in
          let covers = layer.covers config word (subst P same reaches) in
          right covers.entry.place config (slice_get_within words covers.entry.place covers.own covers.entry.word_at) covers.entry.config_at wrong
          )
      | inr differ ↦ elim differ [
        | inl really ↦ before fewer word config really reaches wrong
        | inr more ↦ absurd (let no : ⊥ = omega arith in no)
      ]
    ]

    -- otherwise the least of its words that do is the least of all
    pub least_at : (size : ℕ) (configs : List Config) (words : List (List ℕ)) (found : ℕ) → IsLayer group table size configs words
        → NoneBefore size → IsLeastWrong group table end configs words (length words) (Some found)
        → (any : ℕ) (word : List ℕ) (config : Config) → Reaches group table any word config → GoesWrong group table end config
        → ¬ Less word (get_or words found [])
    least_at size configs words found layer before (some {config = own} within at own_wrong least) any word config reaches wrong less =
        elim (cases_order any size) [
          | inl same ↦ (
              let P : ℕ → Type 0 = λ k. Reaches group table k word config in
              let covers = layer.covers config word (subst P same reaches) in
              let place = covers.entry.place in
              let stands : get_or words place [] ≡ covers.own = get_or_from_slice_get words place covers.own [] covers.entry.word_at in
              let Q : List ℕ → Type 0 = λ w. ¬ Less w (get_or words found []) in
              let not_less = subst Q stands
              (least place config (slice_get_within words place covers.own covers.entry.word_at) covers.entry.config_at wrong) in
              elim covers.at_most [
                | inl equal ↦ (
                    let R : List ℕ → Type 0 = λ w. Less w (get_or words found []) in
                    not_less (subst R (sym equal) less)
                    )
                | inr lesser ↦ not_less (shortlex_transitive covers.own word (get_or words found []) lesser less)
              ]
              )
          | inr differ ↦ elim differ [
            | inl fewer ↦ before any word config fewer reaches wrong
            | inr more ↦ (
                let one = reaches_length any word config reaches in
                let two = own_length within at in
                too_long word (get_or words found []) (omega arith) less
                )
          ]
        ]
      where
        own_length : found < length words → slice_get configs found ≡ Some own → length (get_or words found []) ≡ size
        own_length inside there =
            reaches_length size (get_or words found []) own
            (layer.sound own (get_or words found []) (record { place = found; config_at = there; word_at = slice_get-get_or words found [] inside }))

        too_long : (u v : List ℕ) → length v < length u → Less u v → ⊥
        too_long u v long (shorter h) = omega arith
        too_long u v long (earlier e h) = omega arith

    -- the least word leads to a state with a label that goes wrong
    pub wrong_at : (size : ℕ) (configs : List Config) (words : List (List ℕ)) (found : ℕ) → IsLayer group table size configs words
        → IsLeastWrong group table end configs words (length words) (Some found)
        → (config : Config) × (Reaches group table size (get_or words found []) config × GoesWrong group table end config)
    wrong_at size configs words found layer (some {config = own} within at wrong least) = (
      own,
      (
        layer.sound own (get_or words found [])
            (record { place = found; config_at = at; word_at = slice_get-get_or words found [] within }),
        wrong,
      ),
    )

    -- the answers in terms of words that go wrong
    pub answer_none : (size : ℕ) (configs : List Config) (words : List (List ℕ)) → words ≡ [] → IsLayer group table size configs words
        → NoneBefore size → (word : List ℕ) → ¬ IsWrong group table end word
    answer_none size configs words empty layer before word is = none_at_all size configs words empty layer before is.0 word is.1.0 is.1.1.0 is.1.1.1

    pub answer_some : (size : ℕ) (configs : List Config) (words : List (List ℕ)) (found : ℕ) → IsLayer group table size configs words
        → NoneBefore size → IsLeastWrong group table end configs words (length words) (Some found)
        → IsLeastWord (IsWrong group table end) (get_or words found [])
    answer_some size configs words found layer before least =
        let wrong = wrong_at size configs words found layer least in record {
          holds = (size, wrong);
          least = λ word is. least_at size configs words found layer before least is.0 word is.1.0 is.1.1.0 is.1.1.1;
        }
