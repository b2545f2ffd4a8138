-- The first words of the automaton that is made of the machine are those that have later pairs.
use Rattle.std.proofs.Common.{◌≡◌, ◌↔◌, ℕ, IfOk, IfSome, IfNone, List, Option, Some, None, Result, Ok, Err, sym, ap, is_some, ◌∙◌, subst, arith}
use Rattle.kb_word.specs.Relations.{IsOver}
use Rattle.kb_fsa.specs.declared.alphabet.Alphabet.{Alphabet}
use Rattle.kb_fsa.specs.declared.alphabet.Alphabet.TheVariants.{Pair}
use Rattle.kb_fsa.specs.Table.{Table, IsTable, AcceptsFrom}
use Rattle.kb_fsa.specs.Padding.{padded}
use Rattle.kb_fsa.specs.Language.{Automaton, IsAutomaton, IsTextOf, generators}
use Rattle.kb_fsa.proofs.PaddedRuns.{run_of_text}
use Rattle.kb_fsadet.specs.Nondeterministic.{Nondeterministic, AcceptsSomehow}
use Rattle.kb_leastpair.specs.LeastPair.{IsLeastWord}
use Rattle.kb_branching.specs.Branching.{BranchingAccepts}
use Rattle.kb_certificates.specs.FirstWords.{HasSecond}
use Rattle.kb_certificates.specs.declared.later_pairs.relation.Relation.TheVariants.{Same}
use Rattle.kb_certificates.specs.declared.later_pairs.rivals.Rivals.{Rivals}
use Rattle.kb_certificates.specs.Later.{HasLater}
use Rattle.kb_certificates.specs.Reading.{ReadsPairs, from_start}
use Rattle.kb_certificates.specs.Rivalry.{rivalry}
use Rattle.kb_certificates.proofs.RivalMoves.{to_start}
use Rattle.kb_certificates.proofs.RivalRuns.{HasRival, accepted_ends, ends_accepted, some_state}

-- an automaton of pairs reads pairs
pub automaton_reads : (pairs : Automaton) (n : ℕ) → n ≡ generators pairs.alphabet → pairs.alphabet ≡ Pair (generators pairs.alphabet)
    → IsAutomaton pairs → ReadsPairs n pairs.table
automaton_reads pairs n is_n pair is =
    let same : pairs.alphabet ≡ Pair n = pair ∙ ap (λ k. Pair k) (sym is_n) in
    let P : Alphabet → List ℕ → Type 0 = λ alphabet text. IsTextOf alphabet text in
    let few = is.generators in record {
      generators = omega arith;
      is_table = is.table;
      texts = λ text some.
          let run = run_of_text (Pair n) text (subst (λ alphabet. P alphabet text) same (is.texts text some)) in
          ap is_some run.1;
    }

module _ (n : ℕ) (table : Table) (is : IsTable table) where
  machine_accepts : (u v : List ℕ) → IsOver n u → IsOver n v → BranchingAccepts (rivalry n table) (padded n u v)
      ↔ (AcceptsFrom table table.initial (padded n u v) × HasRival n table table.initial Same u v)
  machine_accepts u v over also = (
    λ accepts.
        let leads = accepts.1 in
        let start = from_start table.initial leads.start leads.is_start in
        let P : Rivals → Type 0 = λ from. AcceptsFrom table from.own (padded n u v) × HasRival n table from.rival from.relation u v in
        subst P start.0 (ends_accepted n table is u v over also leads.start (accepts.0, (leads.leads, accepts.2))),
    λ both.
        let start : Rivals = record { own = table.initial; rival = table.initial; relation = Same } in
        let ends = accepted_ends n table is u v over also start both in (
          ends.0,
          record {
            start = start;
            is_start = to_start table.initial (some_state n table is table.initial (padded n u v) both.0);
            leads = ends.1.0;
          },
          ends.1.1,
        ),
  )

module _ (pairs : Automaton) (m : ℕ) (is_n : m ≡ generators pairs.alphabet) (is : IsTable pairs.table)
    (nfa : Nondeterministic) (same : nfa.alphabet ≡ pairs.alphabet)
    (language : (text : List ℕ) → AcceptsSomehow nfa text ↔ BranchingAccepts (rivalry m pairs.table) text) where
  abbrev k : ℕ
  k = generators pairs.alphabet

  alike : generators nfa.alphabet ≡ k
  alike = ap generators same

  language_is : (u v : List ℕ) → IsOver k u → IsOver k v → AcceptsSomehow nfa (padded k u v)
      ↔ (AcceptsFrom pairs.table pairs.table.initial (padded k u v) × HasRival k pairs.table pairs.table.initial Same u v)
  language_is u v over also =
      let P : ℕ → Type 0 = λ j. AcceptsSomehow nfa (padded k u v) ↔ BranchingAccepts (rivalry j pairs.table) (padded k u v) in
      let one = subst P is_n (language (padded k u v)) in
      let two = machine_accepts k pairs.table is u v over also in
      (λ accepts. two.0 (one.0 accepts), λ both. one.1 (two.1 both))

  -- the first words that the machine's automaton accepts are those that have later pairs
  pub first_words_later : (word : List ℕ) → HasSecond nfa word ↔ HasLater pairs word
  first_words_later word =
      let P : List ℕ → ℕ → Type 0 = λ w j. IsOver j w in (
        λ has.
            let over = subst (P word) alike has.first_over in
            let also = subst (P has.second) alike has.second_over in
            let Q : ℕ → Type 0 = λ j. AcceptsSomehow nfa (padded j word has.second) in
            let both = (language_is word has.second over also).0 (subst Q alike has.accepts) in record {
              second = has.second;
              later = record {
                accepted = record { first_over = over; second_over = also; accepted = both.0 };
                lesser = both.1.rest;
                less = both.1.fits;
                lesser_accepted = record { first_over = over; second_over = both.1.over; accepted = both.1.accepted };
              };
            },
        λ has.
            let pair = has.later.accepted in
            let rival = has.later.lesser_accepted in
            let Q : ℕ → Type 0 = λ j. AcceptsSomehow nfa (padded j word has.second) in
            let accepts = (language_is word has.second pair.first_over pair.second_over).1 (
              pair.accepted,
              record {
                rest = has.later.lesser;
                over = rival.second_over;
                accepted = rival.accepted;
                fits = has.later.less;
              },
            ) in record {
              second = has.second;
              first_over = subst (P word) (sym alike) pair.first_over;
              second_over = subst (P has.second) (sym alike) pair.second_over;
              accepts = subst Q (sym alike) accepts;
            },
      )

-- ---- the search

-- the least word for which a fact holds is the least for which another does, where they hold of the same words
least_alike : {P Q : List ℕ → Type 0} (word : List ℕ) → ((w : List ℕ) → P w ↔ Q w) → IsLeastWord P word → IsLeastWord Q word
least_alike word same least = record {
  holds = (same word).0 least.holds;
  least = λ other has. least.least other ((same other).1 has);
}

pub found_alike : {P Q : List ℕ → Type 0} {E : Type 0} (found : Result (Option (List ℕ)) E) → ((w : List ℕ) → P w ↔ Q w)
    → IfOk found (λ one. IfSome one (IsLeastWord P)) → IfOk found (λ one. IfSome one (IsLeastWord Q))
found_alike (Ok (Some word)) same least = least_alike word same least
found_alike (Ok None) same none = none
found_alike (Err e) same none = none

pub none_alike : {P Q : List ℕ → Type 0} {E : Type 0} (found : Result (Option (List ℕ)) E) → ((w : List ℕ) → P w ↔ Q w)
    → IfOk found (λ one. IfNone one ((w : List ℕ) → ¬ P w)) → IfOk found (λ one. IfNone one ((w : List ℕ) → ¬ Q w))
none_alike (Ok (Some word)) same none = none
none_alike (Ok None) same none = λ w has. none w ((same w).1 has)
none_alike (Err e) same none = none
