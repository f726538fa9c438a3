use Rattle.std.proofs.Common.{◌≡◌, ◌+◌, ◌-◌, ◌≤◌, length, take, drop, ap, ◌∙◌, arith}
use Rattle.std.proofs.lemmas.List.{length-append, length-drop}
use Rattle.mpm_script.specs.Clients.{names_of}
use Rattle.mpm_script.specs.Commands.{command_lines_of, commands_of}
use Rattle.script_front.specs.PlayedPartsInside.{SeenClients, SeenCommands}
use Rattle.script_front.proofs.CommandLemmas.{brings-within, come-within, commands-come, lines-add}
use Rattle.script_front.proofs.PlayedLemmas.{names-add, names-within, played-clients, played-lines}
use Rattle.script_front.proofs.SignalLemmas.{names, names-lines}
use Rattle.script_front.proofs.script_front.ScriptFront.pass.Goals as goal
use Rattle.script_front.proofs.script_front.ScriptFront.pass.Goals.{After-arrivals, After-commands}

few : (c : After-arrivals) → c.args.count ≤ length c.self.inside.script - c.self.inside.happened
few c = rw (← c.self.view_is) at c.requires.few

more : (c : After-arrivals) → c.arrivals.result ≡ length (names_of (take c.args.count (drop c.self.inside.happened c.self.inside.script)))
more c = rw (c.next_lines-lines.ensures, c.lines.ensures) at c.arrivals.ensures.is

arrived : (c : After-arrivals)
    → c.self.inside.arrived + c.arrivals.result ≡ length (names_of (take (c.self.inside.happened + c.args.count) c.self.inside.script))
arrived c =
    let s = c.self.inside in
    omega (arith, c.self.invariant.arrived, more c, names-add s.script s.happened c.args.count)

pub overflow_add-self : goal.overflow_add-self
overflow_add-self c =
    let s = c.self.inside in
    omega (arith, arrived c, names-within s.script (s.happened + c.args.count), few c, c.self.invariant.happened, ap length c.lines.ensures)

brought : (c : After-commands) → c.commands.result ≡ length (command_lines_of (take c.args.count (drop c.self.inside.happened c.self.inside.script)))
brought c = rw (c.next_lines-lines.ensures, c.lines.ensures) at c.commands.ensures.is

came : (c : After-commands)
    → c.self.inside.commands.came + c.commands.result ≡ length (command_lines_of (take (c.self.inside.happened + c.args.count) c.self.inside.script))
came c =
    let s = c.self.inside in
    let all = lines-add s.script s.happened c.args.count in
    let sum = length-append (command_lines_of (take s.happened s.script)) (command_lines_of (take c.args.count (drop s.happened s.script))) in
    omega (arith, c.self.invariant.commands.came, brought c, ap length all, sum)

pub come-requires-clause-fits : goal.come-requires-clause-fits
come-requires-clause-fits c =
    let s = c.self.inside in
    let at = goal.at.come-requires-clause-fits c in
    omega (arith, came at.After-commands, brings-within s.script (s.happened + c.args.count), few at.After-arrivals, c.self.invariant.happened, ap length c.lines.ensures)

pub come-requires-clause-few : goal.come-requires-clause-few
come-requires-clause-few c =
    let s = c.self.inside in
    let at = goal.at.come-requires-clause-few c in
    omega (arith, came at.After-commands, come-within s.script (s.happened + c.args.count), length-drop s.commands.read (commands_of s.script), ap length c.self.invariant.commands.unread_are)

pub invariant_of-self : goal.invariant_of-self
invariant_of-self c =
    let s = c.self.inside in
    let at = goal.at.invariant_of-self c in
    let next = rw (← c.self.view_is) at c.requires.next in
    let past = rw (← c.self.view_is) at c.requires.past in
    let ws = c.come.new.self in
    let commands = commands-come s.script s.happened s.commands c.self.invariant.commands c.args.count c.commands.result ws (brought at.After-commands) c.come.ensures in
    let read = ap (λ (ws : SeenCommands). ws.read) c.come.ensures in
    let p = played-lines s.script s.happened s.begun s.moment s.arrived s.accepted s.hushed s.clients s.commands s.ends c.self.invariant c.args.count c.arrivals.result ws (few at.After-arrivals) (more at.After-arrivals) next past commands read in
    let is = c.happen.ensures in
    played-clients s.script _ s.begun s.moment _ s.accepted s.hushed s.clients ws s.ends p c.happen.new.self
    (ap (λ (cs : SeenClients). cs.waiting) is) (ap (λ (cs : SeenClients). length cs.watched) is)
    (ap (λ (cs : SeenClients). names cs.clients) is ∙ names-lines c.next_lines-lines.result.now s.clients.clients)

pub returns : goal.returns
returns c =
    let s = c.self.inside in
    let at = (goal.at.returns c).After-arrivals in
    let a = arrived at in
    let b : length s.script - (s.happened + c.args.count) ≡ length s.script - s.happened - c.args.count = omega arith in
    let read = ap (λ (ws : SeenCommands). ws.read) c.come.ensures in
    rw (← c.self.view_is, c.happen.ensures, c.next_lines-lines.ensures, c.lines.ensures, read, a, b)
