use Rattle.std.proofs.Common.{◌≡◌, ◌+◌, Some, ap, refl, sym, ◌∙◌, arith}
use Rattle.mpm_base.specs.Count.{next_count}
use Rattle.script_front.specs.PlayedPartsInside.{SeenCommands}
use Rattle.script_front.proofs.CommandLemmas.{brings-within, commands-read, next-line}
use Rattle.script_front.proofs.PlayedLemmas.{played-read}
use Rattle.script_front.proofs.script_front.ScriptFrontFront.command.Goals as goal
use Rattle.script_front.proofs.script_front.ScriptFrontFront.command.Goals.{In_ok-word}

pub invariant_of-self-2 : goal.invariant_of-self-2
invariant_of-self-2 c =
    let s = c.self.inside in
    let next = c.in_ok-word.ensures in
    let commands = commands-read s.script s.happened s.commands c.self.invariant.commands c.next.new.self c.in_ok-word.word next.next next.rest next.some in
    played-read s.script s.happened s.begun s.moment s.arrived s.accepted s.hushed s.clients s.commands s.ends c.self.invariant c.next.new.self commands next.some

-- one more was read
read-more : (c : In_ok-word) → c.next.new.self.read ≡ next_count c.self.inside.commands.read
read-more c =
    let s = c.self.inside in
    let next = c.in_ok-word.ensures in
    let fits : s.commands.read + 1 ≡ next_count s.commands.read =
    omega (arith, next.some, c.self.invariant.commands.came, brings-within s.script s.happened, c.self.ranges) in
    ap (λ (ws : SeenCommands). ws.read) next.rest ∙ fits

pub returns-clause-line : goal.returns-clause-line
returns-clause-line c =
    let s = c.self.inside in
    let next = c.in_ok-word.ensures in
    let there = next-line s.script s.happened s.commands c.self.invariant.commands c.in_ok-word.word c.next.new.self.unread next.next next.some in
    rw (← c.self.view_is) (ap Some c.command_line.ensures ∙ sym there)

pub returns-clause-rest : goal.returns-clause-rest
returns-clause-rest c =
    let more = read-more (goal.at.returns-clause-rest c).In_ok-word in
    rw (← c.self.view_is, more) refl

pub returns-clause-commands : goal.returns-clause-commands
returns-clause-commands c =
    let s = c.self.inside in
    let next = c.in_ok-word.ensures in
    let more = read-more (goal.at.returns-clause-commands c).In_ok-word in
    let there = next-line s.script s.happened s.commands c.self.invariant.commands c.in_ok-word.word c.next.new.self.unread next.next next.some in
    rw (← c.self.view_is, more) (record {
      script = refl;
      told_is = refl;
      gives = sym (ap Some c.command_line.ensures ∙ sym there);
      faults = refl;
      accept_faults = refl;
      ends = refl;
      wakes = refl;
      commands = (omega (arith, next.some, c.self.invariant.commands.came, brings-within s.script s.happened), λ below. omega (arith, below));
      words = c.count.ensures;
      answers_stay = refl;
      handed = refl;
    })
