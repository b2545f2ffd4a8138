-- The events by which pending pairs go, and the rules that are live then.
use Rattle.std.proofs.Common.{◌≡◌, ℕ, suc, ◌<◌, ◌≤◌, ◌+◌, List, [], ◌∷◌, ◌++◌, length, map, drop, Option, Some, slice_get, unwrap_or, refl, sym, ap, ◌∙◌, subst, arith}
use Rattle.std.proofs.lemmas.List.{map-append}
use Rattle.kb_word.specs.Words.{Pair}
use Rattle.kb_rules.proofs.Reducts.{normal_form_reduct}
use Rattle.kb_machine.specs.declared.line.Line.{Line}
use Rattle.kb_machine.specs.declared.origin.Origin.{Origin}
use Rattle.kb_machine.specs.Lines.{numbered, rule_of, rules_of}
use Rattle.kb_machine.specs.States.{rule_numbered}
use Rattle.kb_machine.specs.Course.{Course}
use Rattle.kb_machine.specs.declared.event.Event.{Event}
use Rattle.kb_machine.specs.declared.event.Event.TheVariants.{Dropped, Made, Halted}
use Rattle.kb_machine.specs.declared.halt.Halt.{Halt}
use Rattle.kb_book.specs.Answers.{DropsPair, MakesLine, HaltsAt, IsCopyOf}
use Rattle.kb_book.specs.Normal.{IsNext, IsNextLine, PairIsJoined, IsLimitOf}
use Rattle.kb_book.proofs.Derived.{AreNumbers, numbered_within, reduces_live}
use Rattle.kb_book.proofs.Lists.{numbered-more}

last_at : (lines : List Line) (line : Line) → slice_get (rules_of (lines ++ line ∷ [])) (length lines) ≡ Some (rule_of line)
last_at [] line = refl
last_at (first ∷ lines) line = last_at lines line

-- the last line's number
pub numbered_last : (lines : List Line) (line : Line) (k : ℕ) → k ≡ length lines + 1
    → numbered (rules_of (lines ++ line ∷ [])) k ≡ Some (rule_of line)
numbered_last lines line k is =
    let next : k ≡ suc (length lines) = omega arith in
    ap (numbered (rules_of (lines ++ line ∷ []))) next ∙ last_at lines line

rule_more : (lines more : List Line) (k : ℕ) → 0 < k → k ≤ length lines
    → rule_numbered (lines ++ more) k ≡ rule_numbered lines k
rule_more lines more k some fits =
    let there : numbered (rules_of lines) k ≡ Some (rule_numbered lines k) = numbered_within lines k some fits in
    let more_there : numbered (rules_of lines ++ rules_of more) k ≡ Some (rule_numbered lines k) =
    numbered-more (rules_of lines) (rules_of more) k (rule_numbered lines k) there in
    ap (λ (rules : List Pair). unwrap_or (numbered rules k) ([], [])) (map-append rule_of lines more)
    ∙ ap (λ (o : Option Pair). unwrap_or o ([], [])) more_there

-- live rules stay where a line is added
pub rules_more : (lines more : List Line) (live : List ℕ) → AreNumbers lines live
    → map (rule_numbered (lines ++ more)) live ≡ map (rule_numbered lines) live
rules_more lines more [] numbers = refl
rules_more lines more (k ∷ live) numbers =
    let first = numbers 0 k (omega arith) in
    let rest : AreNumbers lines live = λ index d within. numbers (suc index) d (omega arith) in
    cc (rule_more lines more k first.0 first.1, rules_more lines more live rest)

-- the rules with that of a line more
pub rules_with : (lines : List Line) (live : List ℕ) (line : Line) (k : ℕ) (rules rules' : List Pair) (lines' : List Line) (live' : List ℕ)
    → AreNumbers lines live → k ≡ length lines + 1 → rules ≡ map (rule_numbered lines) live
    → rules' ≡ rules ++ rule_of line ∷ [] → lines' ≡ lines ++ line ∷ [] → live' ≡ live ++ k ∷ []
    → rules' ≡ map (rule_numbered lines') live'
rules_with lines live line k rules rules' lines' live' numbers is are pushed is_lines is_live =
    let f = rule_numbered (lines ++ line ∷ []) in
    let last : f k ≡ rule_of line = ap (λ (o : Option Pair). unwrap_or o ([], [])) (numbered_last lines line k is) in
    let whole : map f (live ++ k ∷ []) ≡ map (rule_numbered lines) live ++ rule_of line ∷ [] =
    map-append f live (k ∷ []) ∙ ap (λ (l : List Pair). l ++ f k ∷ []) (rules_more lines (line ∷ []) live numbers)
    ∙ ap (λ (rule : Pair). map (rule_numbered lines) live ++ rule ∷ []) last in
    pushed ∙ ap (λ (l : List Pair). l ++ rule_of line ∷ []) are ∙ sym whole ∙ sym (cc (is_lines, is_live))

-- a book after the events
pub dropped : (before : Course) (origin : Origin) (pending : List Origin) (journal : List Event) (next : IsNext before origin)
    → PairIsJoined before origin → AreNumbers before.state.lines before.state.live
    → pending ≡ drop 1 before.state.pending → journal ≡ before.journal ++ Dropped ∷ []
    → DropsPair before (record { problem = before.problem; state = record before.state { pending = pending }; journal = journal })
dropped before origin pending journal next one numbers popped is_journal =
    let have = one.1 in
    let rest : pending ≡ next.rest = popped ∙ ap (drop 1) next.pending in
    let reduces = λ (u : List ℕ) (v : List ℕ). reduces_live before.state u v numbers in
    record {
      takes = record {
        problem = refl;
        journal = is_journal;
        step = record {
          origin = origin;
          rest = next.rest;
          pending = record { running = next.running; is = next.pending };
          pair = have.pair;
          is_pair = have.is_pair;
          joint = one.0;
          first = reduces have.pair.0 one.0 (normal_form_reduct have.first);
          second = reduces have.pair.1 one.0 (normal_form_reduct have.second);
          is = cc rest;
        };
      };
      joint = one.0;
      normal = record {
        origin = origin;
        rest = next.rest;
        pending = next.pending;
        pair = have.pair;
        is_pair = have.is_pair;
        first = have.first;
        second = have.second;
      };
    }

pub made : (before : Course) (line : Line) (k : ℕ) (lines : List Line) (live : List ℕ) (pending : List Origin)
    (versions : List (List ℕ)) (journal : List Event) → IsNextLine before line → length before.state.lines < before.problem.most_lines
    → length line.left ≤ before.problem.most_letters → k ≡ length before.state.lines + 1
    → lines ≡ before.state.lines ++ line ∷ [] → live ≡ before.state.live ++ k ∷ []
    → pending ≡ drop 1 before.state.pending → versions ≡ before.state.versions → journal ≡ before.journal ++ Made k ∷ []
    → MakesLine before (record {
      problem = before.problem;
      state = record before.state { lines = lines; live = live; pending = pending; versions = versions };
      journal = journal;
    }) k
made before line k lines live pending versions journal is room short number is_lines is_live popped are_versions is_journal =
    let next = is.next in
    let rest : pending ≡ next.rest = popped ∙ ap (drop 1) next.pending in
    let P : List Line → Type 0 = λ l. numbered (rules_of l) k ≡ Some (rule_of line) in
    record {
      takes = record {
        problem = refl;
        journal = is_journal;
        step = record {
          origin = line.origin;
          rest = next.rest;
          pending = record { running = next.running; is = next.pending };
          line = line;
          number = number;
          room = room;
          short = short;
          of_origin = refl;
          apart = is.apart;
          is = cc (is_lines, is_live, rest, are_versions);
        };
      };
      rule = rule_of line;
      is_rule = subst P (sym is_lines) (numbered_last before.state.lines line k number);
      normal = is.normal;
    }

pub halted : (before : Course) (kept copy : Halt) (halt : Option Halt) (journal : List Event) → IsLimitOf before kept
    → IsCopyOf kept copy → halt ≡ Some kept → journal ≡ before.journal ++ Halted ∷ []
    → HaltsAt before (record { problem = before.problem; state = record before.state { halt = halt }; journal = journal }) copy
halted before kept copy halt journal limit copied is is_journal = record {
  takes = record {
    problem = refl;
    journal = is_journal;
    step = record {
      origin = limit.origin;
      rest = limit.next.rest;
      pending = record { running = limit.next.running; is = limit.next.pending };
      halt = kept;
      limit = limit.limit;
      is = cc is;
    };
  };
  own = kept;
  is = is;
  copied = copied;
  normal = limit.normal;
}
