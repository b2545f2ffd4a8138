-- What a run means by its status: the program's one promise.
--
-- Status 0 means, by the command:
-- - `wordreduce`: each line written is the least word, by the file's order (shortlex or by weight),
--   that is equal in the presented monoid or group to the line read; the oriented relations are
--   confluent, or with a log its lines are justified and confluent, and join each relation.
-- - `kbprog`: the lines are so, the rules stored are the reduced complete system of the
--   presentation, and the automaton beside them accepts exactly its least words.
-- - `kbcertify`: the same rules and automaton are stored, with a log that is justified line by line
--   and whose lines' rules are confluent and generate the presentation's congruence.
-- - `selftest`: the numbers written are those of such rules and of such an automaton.
-- - `ball`: the lines are the least words of the elements that short enough words stand for.
-- - `kbcos`: each line is the least word of the right coset of the line read; the rules stored are
--   the reduced complete system of the presentation that marks the cosets.
-- - `autgroup`: the automata stored are the word acceptor and the multipliers of the group, and the
--   lines are as those of `kbprog`. `gpaxioms`: the automata in the files are, and `gpminkb`: they
--   are, and those stored accept exactly the left sides and the rules of the reduced complete
--   system.
-- - `logread`: the line says what the log holds. `kbverify`: the log is justified line by line.
-- - the commands on automata: what is stored is the canonical automaton of the stated language, the
--   two languages are the same, or the lines are the accepted words.
--
-- Status 3 shows why the relations or the lines of a log are not confluent, a log is not justified
-- or leaves a relation apart, languages are not the same, or automata not the group's own.
--
-- Status 2 means that a limit was reached. A completion that halts leaves a log whose lines are
-- justified one by one, which is stored, or written by `selftest`; whether it halts may depend on
-- its course. `autgroup` may also need one more word difference than may be kept. Or a construction
-- counts more states than the limit: of the commands on automata, of `gpaxioms` and of `gpminkb`
-- status 2 comes exactly there, of `autgroup` only there. Of `kbprog`, `kbcertify`, `ball` and
-- `selftest`, whose completion came to the reduced complete system, it comes exactly where this is
-- counted above the limit, and status 0 exactly where it isn't: the file settles which. The first
-- three then store the log, `selftest` writes none. `kbcos` counts no states.
use Rattle.std.specs.Prelude.{ℕ, List}
use Rattle.kb_io.specs.Outside.{Outside, IsUnchanged}
use Rattle.kb_task.specs.declared.status.Status.{Status}
use Rattle.kb_task.specs.declared.status.Status.TheVariants.{Memory, Usage}
use Rattle.kb_cli.specs.CommandLine.{IsLine, IsNoLine}
use Rattle.kb_cli.specs.Commands.{command_promise}
use Rattle.kb_cli.specs.declared.command.Command.{Command}

-- what ends a run before its command is known
abbrev pub ArgumentsStop : List (List ℕ) → Status → Type 0
ArgumentsStop arguments (Usage kind) = IsNoLine arguments kind
ArgumentsStop arguments Memory = Unit {0}
ArgumentsStop arguments _ = ⊥

-- What a run on these arguments means: they are no command and nothing changed; or they are the line of a command, and
-- the status means what it means for that command.
pub data Headline (arguments : List (List ℕ)) (before after : Outside)
    (status : Status) : Type 0 where
  no_command : ArgumentsStop arguments status → IsUnchanged before after
      → Headline arguments before after status
  a_command : (command : Command) → IsLine arguments command
      → (command_promise command).means before after status
      → Headline arguments before after status

-- a run on these arguments may store under the name
abbrev pub MayStore : List (List ℕ) → List ℕ → Type 0
MayStore arguments name =
    (command : Command) × IsLine arguments command × (command_promise command).may_store name
