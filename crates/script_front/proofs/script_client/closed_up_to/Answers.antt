use Rattle.script_front.proofs.LookLemmas.{looks-none}
use Rattle.script_front.proofs.script_client.closed_up_to.Goals as goal

pub links-init : goal.links-init
links-init c = record {
  looks = looks-none c.args.clients.now;
  are = c.requires.were;
}
