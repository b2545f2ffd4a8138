-- What the moves from a layer's states give, and the least word of a layer that goes wrong.
use Rattle.std.proofs.Common.{◌≡◌, ℕ, zero, suc, ◌+◌, ◌<◌, ◌≤◌, List, [], length, get_or, slice_get, Option, Some, None, refl, sym, ap, ap₂, ◌∙◌, subst, inl, inr, arith}
use Rattle.std.proofs.lemmas.Bool.{cases_lt, false≢true}
use Rattle.std.specs.List.{All}
use Rattle.std.proofs.lemmas.List.Elements.{All-nil}
use Rattle.std.proofs.lemmas.List.{get_or_default}
use Rattle.std.proofs.lemmas.Option.{none-some, same_Some}
use Rattle.kb_word.specs.Words.{Less}
use Rattle.kb_word.specs.ShortlexLaws.{shortlex_irreflexive, shortlex_transitive}
use Rattle.kb_fsa.specs.Table.{HasSymbols, IsRow, Table, IsLive, Moves, is_accepting, moves_of, target}
use Rattle.kb_fsa.proofs.Lookups.{All-moves_of, after_none, entry_from_lookup, lookup_at, lookup_from_target, target_some}
use Rattle.kb_diff.specs.Groups.{Group}
use Rattle.kb_labels.proofs.Unique.{turns_to_one}
use Rattle.kb_labels.specs.declared.config.Config.{Config}
use Rattle.kb_labels.specs.Layers.{Adds, ComesBy, ComesByFirst, ComesFrom, ComesFromFirst, GoesWrong, IsLeastWrong, IsMove, IsOne, longer}
use Rattle.kb_labels.specs.Layers.IsLeastWrong.{none, some}
use Rattle.kb_labels.proofs.Adding.{adds_nothing, adds_same, adds_then}

live_positive : (table : Table) (state : ℕ) → IsLive table state → 0 < state
live_positive table zero live = absurd (false≢true (sym (ap (is_accepting table) (after_none table live.0)) ∙ live.1))
live_positive table (suc place) live = omega arith

-- the moves of a state by a place
pub move_target : (moves : Moves) (place : ℕ) → IsRow moves → place < length moves
    → target moves (get_or moves place (0, 0)).0 ≡ (get_or moves place (0, 0)).1
move_target moves place row within =
    target_some moves (get_or moves place (0, 0)).0 (get_or moves place (0, 0)).1 (lookup_at moves place (0, 0) row.ascends within)

pub move_symbol : (table : Table) (state k place : ℕ) → HasSymbols k table → place < length (moves_of table state)
    → (get_or (moves_of table state) place (0, 0)).0 ≤ k
move_symbol table state k place has within =
    let P : Moves → Type 0 = λ moves. All (λ move. move.0 ≤ k) moves in
    All-moves_of P table state (All-nil (λ (move : ℕ × ℕ). move.0 ≤ k)) has place (0, 0) within

module _ (group : Group) (table : Table) where
  module _ (from : Config) (word : List ℕ) where
    -- a move that leads somewhere gives one entry
    pub adds_by_move : (symbol : ℕ) (to : Config) (more : List ℕ) (configs : List Config) (words : List (List ℕ)) (configs' : List Config)
        (words' : List (List ℕ)) → IsMove group table from symbol to → more ≡ longer group word symbol
        → Adds (IsOne to more) configs words configs' words' → Adds (ComesBy group table from word symbol) configs words configs' words'
    adds_by_move symbol to more configs words configs' words' move more_is adds =
        adds_same (IsOne to more) (ComesBy group table from word symbol) configs words configs' words'
        (λ other another is.
        let P : Config → Type 0 = IsMove group table from symbol in (subst P (sym is.0) move, is.1 ∙ more_is))
        (λ other another comes.
        let make : ℕ → List ℕ → Config = λ s l. record { state = s; label = l } in
        let states : other.state ≡ to.state = sym comes.0.leads ∙ move.leads in
        let labels : other.label ≡ to.label =
        turns_to_one group from.label symbol other.label to.label comes.0.turned move.turned in
        (ap₂ make states labels, comes.1 ∙ sym more_is))
        adds

    -- the first moves, and one more
    pub moves_begin : (configs : List Config) (words : List (List ℕ)) → length words ≡ length configs
        → Adds (ComesByFirst group table from word 0) configs words configs words
    moves_begin configs words one_each =
        adds_nothing (ComesByFirst group table from word 0) configs words one_each
        (λ other another comes. let less = comes.1.0 in let no : ⊥ = omega arith in no)

    pub moves_more : (moved symbol : ℕ) (configs : List Config) (words : List (List ℕ)) (configs' : List Config) (words' : List (List ℕ))
        (configs'' : List Config) (words'' : List (List ℕ)) → symbol ≡ (get_or (moves_of table from.state) moved (0, 0)).0
        → Adds (ComesByFirst group table from word moved) configs words configs' words'
        → Adds (ComesBy group table from word symbol) configs' words' configs'' words''
        → Adds (ComesByFirst group table from word (moved + 1)) configs words configs'' words''
    moves_more moved symbol configs words configs' words' configs'' words'' is =
        adds_then (ComesByFirst group table from word moved) (ComesBy group table from word symbol)
        (ComesByFirst group table from word (moved + 1)) configs words configs' words' configs'' words''
        (λ other another comes. (comes.0, (let less = comes.1.0 in omega arith, comes.1.1)))
        (λ other another comes.
        let P : ℕ → Type 0 = λ k. ComesBy group table from word k other another in (moved, (omega arith, subst P is comes)))
        (λ other another comes. elim (cases_lt comes.0 moved) [
          | inl less ↦ inl (comes.0, (less, comes.1.1))
          | inr no_less ↦ (
              let less = comes.1.0 in
              let same : comes.0 ≡ moved = omega arith in
              let P : ℕ → Type 0 = λ k. ComesBy group table from word (get_or (moves_of table from.state) k (0, 0)).0 other another in
              let Q : ℕ → Type 0 = λ k. ComesBy group table from word k other another in
              inr (subst Q (sym is) (subst P same comes.1.1))
              )
        ])

    -- they are all moves at the end
    pub moves_end : (moved : ℕ) (configs : List Config) (words : List (List ℕ)) (configs' : List Config) (words' : List (List ℕ))
        → length (moves_of table from.state) ≤ moved
        → Adds (ComesByFirst group table from word moved) configs words configs' words'
        → Adds (ComesFrom group table from word) configs words configs' words'
    moves_end moved configs words configs' words' all =
        adds_same (ComesByFirst group table from word moved) (ComesFrom group table from word) configs words configs' words'
        (λ other another comes. ((get_or (moves_of table from.state) comes.0 (0, 0)).0, comes.1.1))
        (λ other another comes.
        let moves : Moves = moves_of table from.state in
        let symbol : ℕ = comes.0 in
        let there = entry_from_lookup moves symbol other.state
        (lookup_from_target moves symbol other.state (live_positive table other.state comes.1.0.live) comes.1.0.leads) in
        let entry : get_or moves there.0 (0, 0) ≡ (symbol, other.state) =
        get_or_default moves there.0 (0, 0) (symbol, other.state) there.1 ∙ there.2 in
        let P : ℕ → Type 0 = λ k. ComesBy group table from word k other another in
        (there.0, (at_least there.0 (length moves) there.1 all, subst P (sym (ap (λ (move : ℕ × ℕ). move.0) entry)) comes.1)))
      where
        at_least : (k count : ℕ) → k < count → count ≤ moved → k < moved
        at_least k count one two = omega arith

  module _ (configs : List Config) (words : List (List ℕ)) where
    -- the first places, and one more
    pub places_begin : Adds (ComesFromFirst group table configs words 0) [] [] [] []
    places_begin = adds_nothing (ComesFromFirst group table configs words 0) [] [] refl
        (λ other another comes. let less = comes.early in let no : ⊥ = omega arith in no)

    pub places_more : (done : ℕ) (from : Config) (word : List ℕ) (configs' : List Config) (words' : List (List ℕ))
        (configs'' : List Config) (words'' : List (List ℕ)) → slice_get configs done ≡ Some from → slice_get words done ≡ Some word
        → Adds (ComesFromFirst group table configs words done) [] [] configs' words'
        → Adds (ComesFrom group table from word) configs' words' configs'' words''
        → Adds (ComesFromFirst group table configs words (done + 1)) [] [] configs'' words''
    places_more done from word configs' words' configs'' words'' at also =
        adds_then (ComesFromFirst group table configs words done) (ComesFrom group table from word)
        (ComesFromFirst group table configs words (done + 1)) [] [] configs' words' configs'' words''
        (λ other another comes. record {
          place = comes.place;
          early = let less = comes.early in omega arith;
          from = comes.from;
          word = comes.word;
          config_at = comes.config_at;
          word_at = comes.word_at;
          comes = comes.comes;
        })
        (λ other another comes.
        record { place = done; early = omega arith; from = from; word = word; config_at = at; word_at = also; comes = comes })
        (λ other another comes. elim (cases_lt comes.place done) [
          | inl less ↦
              inl (record {
                place = comes.place;
                early = less;
                from = comes.from;
                word = comes.word;
                config_at = comes.config_at;
                word_at = comes.word_at;
                comes = comes.comes;
              })
          | inr no_less ↦ (
              let less = comes.early in
              let same : comes.place ≡ done = omega arith in
              let C : ℕ → Type 0 = λ k. slice_get configs k ≡ Some comes.from in
              let W : ℕ → Type 0 = λ k. slice_get words k ≡ Some comes.word in
              let froms : comes.from ≡ from = same_Some comes.from from (sym (subst C same comes.config_at) ∙ at) in
              let befores : comes.word ≡ word = same_Some comes.word word (sym (subst W same comes.word_at) ∙ also) in
              let P : Config → Type 0 = λ c. ComesFrom group table c word other another in
              let Q : List ℕ → Type 0 = λ w. ComesFrom group table comes.from w other another in
              inr (subst P froms (subst Q befores comes.comes))
              )
        ])

    module _ (end : List ℕ) where
      abbrev Least : ℕ → Option ℕ → Type 0
      Least done found = IsLeastWrong group table end configs words done found

      pub none_yet : Least 0 None
      none_yet = none (λ place config less at wrong. let no : ⊥ = omega arith in no)

      pub found_within : (done : ℕ) (found : Option ℕ) → Least done found → (other : ℕ) → found ≡ Some other → other < length words
      found_within done None (none right) other is = absurd (none-some other is)
      found_within done (Some found) (some within at wrong least) other is =
          let P : ℕ → Type 0 = λ k. k < length words in subst P (same_Some found other is) within

      -- the next place has a right one
      pub one_right : (done : ℕ) (found : Option ℕ) (config : Config) → slice_get configs done ≡ Some config
          → ¬ GoesWrong group table end config → Least done found → Least (done + 1) found
      one_right done None config at right (none others) = none (λ place other less there wrong. elim (cases_lt place done) [
        | inl fewer ↦ others place other fewer there wrong
        | inr more ↦ (
            let same : place ≡ done = omega arith in
            let C : ℕ → Type 0 = λ k. slice_get configs k ≡ Some other in
            let P : Config → Type 0 = GoesWrong group table end in
            right (subst P (same_Some other config (sym (subst C same there) ∙ at)) wrong)
            )
      ])
      one_right done (Some found) config at right (some within found_at wrong least) =
          some within found_at wrong (λ place other less there also_wrong. elim (cases_lt place done) [
            | inl fewer ↦ least place other fewer there also_wrong
            | inr more ↦ (
                let same : place ≡ done = omega arith in
                let C : ℕ → Type 0 = λ k. slice_get configs k ≡ Some other in
                let P : Config → Type 0 = GoesWrong group table end in
                absurd (right (subst P (same_Some other config (sym (subst C same there) ∙ at)) also_wrong))
                )
          ])

      -- the word at the next place is no less than what is found
      pub one_greater : (done : ℕ) (found : Option ℕ) → (found ≡ None → ⊥)
          → ((other : ℕ) → found ≡ Some other → ¬ Less (get_or words done []) (get_or words other []))
          → Least done found → Least (done + 1) found
      one_greater done None some_found not_less least = absurd (some_found refl)
      one_greater done (Some found) some_found not_less (some within found_at wrong least) =
          some within found_at wrong (λ place other less there also_wrong. elim (cases_lt place done) [
            | inl fewer ↦ least place other fewer there also_wrong
            | inr more ↦ (
                let same : place ≡ done = omega arith in
                let W : ℕ → Type 0 = λ k. ¬ Less (get_or words k []) (get_or words found []) in
                subst W (sym same) (not_less found refl)
                )
          ])

      -- the word at the next place is wrong and less
      pub one_taken : (done : ℕ) (found : Option ℕ) (config : Config) → done < length words → slice_get configs done ≡ Some config
          → GoesWrong group table end config
          → ((other : ℕ) → found ≡ Some other → Less (get_or words done []) (get_or words other []))
          → Least done found → Least (done + 1) (Some done)
      one_taken done found config within at wrong less least =
          some within at wrong (λ place other fewer there also_wrong. elim (cases_lt place done) [
            | inl before ↦ earlier_not_less found least less place other before there also_wrong
            | inr more ↦ (
                let same : place ≡ done = omega arith in
                let W : ℕ → Type 0 = λ k. ¬ Less (get_or words k []) (get_or words done []) in
                subst W (sym same) (shortlex_irreflexive (get_or words done []))
                )
          ])
        where
          earlier_not_less : (found : Option ℕ) → Least done found
              → ((other : ℕ) → found ≡ Some other → Less (get_or words done []) (get_or words other []))
              → (place : ℕ) (other : Config) → place < done → slice_get configs place ≡ Some other → GoesWrong group table end other
              → ¬ Less (get_or words place []) (get_or words done [])
          earlier_not_less None (none right) lesser place other before there also_wrong one = right place other before there also_wrong
          earlier_not_less (Some best) (some inside best_at best_wrong least) lesser place other before there also_wrong one =
              least place other before there also_wrong
              (shortlex_transitive (get_or words place []) (get_or words done []) (get_or words best []) one (lesser best refl))
