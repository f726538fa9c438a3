-- What the threads of a test get may go to another thread.
use denote.RattleType.{RattleType}
use denote.Ref.{NamedLft}
use denote.Struct.Declared.{shape}
use denote.Param.Send.{IsSend, IsSync, recorded_send, shr_send, struct_send, sendable}
use Rattle.std.proofs.Crossing.{crosses}
use Rattle.mpm_base.specs.declared.link.Link as link
use Rattle.conn_state.specs.declared.known.Known as known
use Rattle.conn_state.specs.contracts.known.Nothing as Nothing
use Rattle.conn_state.specs.contracts.known.NothingKnown.TheImpl as of-known
use Rattle.conn_state.proofs.conn.Conn.TheSendSync as conn
use Rattle.board.specs.contracts.board.Board as Board
use Rattle.board.proofs.SendLemmas.{Board-send}
use Rattle.board_lock.specs.declared.room.Room as room
use Rattle.board_lock.proofs.pass.Pass.TheSendSync as pass
use Rattle.board_lock.proofs.shared.Shared.TheSendSync as lock
use Rattle.board_turns.specs.contracts.pair.Pair as Pair
use Rattle.board_turns.specs.contracts.pair.Pair.TheInside as inside
use Rattle.recycle_perch.proofs.looks.Looks.TheSendSync as looks
use Rattle.recycle_perch.proofs.perch.Perch.TheSendSync as perch
use Rattle.atomic_table.proofs.shared.Seat.TheSendSync as table-seat
use Rattle.fd_queue.proofs.queue.FdQueue.TheSendSync as queue
use Rattle.fd_queue.proofs.seat.Item.TheSendSync as item
use Rattle.file_table.proofs.site.Site.TheSendSync as site
use Rattle.worker_threads.specs.contracts.hands.Hands as Hands
use Rattle.worker_threads.proofs.rest.Rest.TheSendSync as rest
use Rattle.worker_threads.proofs.rest.Wakes.TheSendSync as wakes
use Rattle.turn_tests.specs.contracts.links.TestLink as TestLink
use Rattle.turn_tests.specs.contracts.links.TestLinkLink.TheImpl as of-link
use Rattle.turn_tests.specs.contracts.listener.Front as Front
use Rattle.turn_tests.specs.contracts.listener.Listener as Listener
use Rattle.turn_tests.specs.contracts.listener.Pusher as Pusher
use Rattle.turn_tests.specs.contracts.players.Player as Player
use Rattle.turn_tests.specs.contracts.players.Worker as Worker
use Rattle.turn_tests.specs.contracts.tally.Tally as Tally
use Rattle.turn_tests.proofs.links.TestLink.TheSendSync as test-link
use Rattle.turn_tests.proofs.listener.Plan.TheSendSync as plan
use Rattle.turn_tests.proofs.tally.Tally.TheSendSync as tally

-- a search for the whole gives up, so each part is shown by one of its own
module _ (g : link.Ghosts TestLink.the_row.Denot) (k : known.Ghosts Nothing.the_row.Denot) where
  pub TestBoard-send : IsSend (Board.the_row TestLink.the_row Nothing.the_row g k)
  TestBoard-send =
      Board-send TestLink.the_row Nothing.the_row g k (search (sendable, crosses) depth 60 fits 20000) (search (sendable, crosses) depth 60 fits 20000)

module _ (M : RattleType) (m : room.Ghosts M.Denot) (g : link.Ghosts TestLink.the_row.Denot) (k : known.Ghosts Nothing.the_row.Denot) where
  pub PairInside-send : IsSend M → IsSend (inside.the_row M TestLink.the_row Nothing.the_row m g k)
  PairInside-send s = search (TestBoard-send, pass.the_send, pass.the_field_send, conn.the_send, test-link.the_send, sendable, crosses) depth 60 fits 20000

  pub Pair-send : IsSend M → IsSend (Pair.the_row M TestLink.the_row Nothing.the_row m g k)
  Pair-send s = search (PairInside-send, sendable, crosses) depth 60 fits 20000

  pub Hands-sync : (κ : NamedLft) → IsSync M → IsSync (Hands.the_row κ M TestLink.the_row Nothing.the_row Tally.the_row Tally.the_row m g k)
  Hands-sync κ y = search (TestBoard-send, lock.the_sync, perch.the_sync, tally.the_sync, sendable, crosses) depth 60 fits 20000

-- each field is shown by a search of its own
module _ (κ : NamedLft) (M : RattleType) (m : room.Ghosts M.Denot) where
  pub Worker-field-send : IsSend M → IsSync M → IsSend (Worker.the_field κ M m).row
  Worker-field-send s y =
      struct_send (shape (Worker.the_type κ M m)) (
        shr_send _ _ _ (Hands-sync M m of-link.ghosts of-known.ghosts κ y),
        (
          search (Pair-send, queue.the_sync, shr_send) depth 60 fits 20000,
          (
            search (Pair-send, table-seat.the_send, item.the_send, item.the_field_send, sendable) depth 60 fits 20000,
            (
              search (looks.the_field_send) depth 60 fits 20000,
              (search (rest.the_field_send) depth 60 fits 20000, (search (sendable, crosses) depth 60 fits 20000, tt)),
            ),
          ),
        ),
      )

  pub Worker-send : IsSend M → IsSync M → IsSend (Worker.the_row κ M m)
  Worker-send s y = search (Worker-field-send, recorded_send) depth 60 fits 20000

  pub Front-field-send : IsSend M → IsSync M → IsSend (Front.the_field κ M m).row
  Front-field-send s y =
      struct_send (shape (Front.the_type κ M m)) (
        shr_send _ _ _ (Hands-sync M m of-link.ghosts of-known.ghosts κ y),
        (
          search (TestBoard-send, pass.the_field_send) depth 60 fits 20000,
          (
            search (sendable, crosses) depth 60 fits 20000,
            (
              search (sendable, crosses) depth 60 fits 20000,
              (
                search (sendable, crosses) depth 60 fits 20000,
                (
                  search (site.the_send, site.the_sync, sendable, crosses) depth 60 fits 20000,
                  (search (tally.the_send, tally.the_sync, sendable, crosses) depth 60 fits 20000, (search (sendable, crosses) depth 60 fits 20000, tt)),
                ),
              ),
            ),
          ),
        ),
      )

  pub Front-send : IsSend M → IsSync M → IsSend (Front.the_row κ M m)
  Front-send s y = search (Front-field-send, recorded_send) depth 60 fits 20000

  pub Pusher-field-send : IsSend M → IsSync M → IsSend (Pusher.the_field κ M m).row
  Pusher-field-send s y =
      struct_send (shape (Pusher.the_type κ M m)) (
        shr_send _ _ _ (Hands-sync M m of-link.ghosts of-known.ghosts κ y),
        (
          search (Pair-send, queue.the_sync, shr_send) depth 60 fits 20000,
          (
            search (Pair-send, table-seat.the_send, item.the_send, item.the_field_send, sendable) depth 60 fits 20000,
            (search (looks.the_field_send) depth 60 fits 20000, (search (wakes.the_sync, shr_send) depth 60 fits 20000, tt)),
          ),
        ),
      )

  pub Pusher-send : IsSend M → IsSync M → IsSend (Pusher.the_row κ M m)
  Pusher-send s y = search (Pusher-field-send, recorded_send) depth 60 fits 20000

  pub Listener-field-send : IsSend M → IsSync M → IsSend (Listener.the_field κ M m).row
  Listener-field-send s y =
      struct_send (shape (Listener.the_type κ M m)) (
        search (Front-send, Front-field-send) depth 60 fits 20000,
        (search (Pusher-send, Pusher-field-send) depth 60 fits 20000, (search (plan.the_send, plan.the_field_send) depth 60 fits 20000, tt)),
      )

  pub Listener-send : IsSend M → IsSync M → IsSend (Listener.the_row κ M m)
  Listener-send s y = search (Listener-field-send, recorded_send) depth 60 fits 20000

  pub Player-send : IsSend M → IsSync M → IsSend (Player.the_row κ M m)
  Player-send s y = search (Listener-send, Listener-field-send, Worker-send, Worker-field-send, sendable) depth 60 fits 20000
