use Rattle.std.proofs.Common.{◌++◌, subst, sym}
use Rattle.conn_state.specs.Rest.{StandsAs}
use Rattle.conn_state.proofs.reader.RequestReader.keep.Goals as goal

pub invariant_of-self-2 : goal.invariant_of-self-2
invariant_of-self-2 c = (
  c.self.invariant.0 ++ c.args.bytes.now,
  subst (λ xs. StandsAs c.self.inside.limits xs c.self.inside.stage (c.self.invariant.0 ++ c.args.bytes.now)) (sym c.in_ok-add.ensures.ok)
      (c.kept_bytes_go_on.ensures c.self.inside.limits c.self.inside.unread c.args.bytes.now c.self.inside.stage c.self.invariant.0 c.self.invariant.1),
)
