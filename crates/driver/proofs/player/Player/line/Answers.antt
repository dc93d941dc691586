use Rattle.std.proofs.Common.{ap, string_bytes}
use Rattle.driver.specs.Player.{Game}
use Rattle.driver.proofs.Leading.{line-played}
use Rattle.driver.proofs.player.Player.line.Goals as goal
use Rattle.driver.proofs.player.Player.line.Goals.{in-Join+in_ok-join-in-Join, in-Leave+in_ok-leave-in-Leave, in-Edit+in_ok-edit-in-Edit, in-Post+in_ok-post-in-Post, in-PostReport+in_ok-post_report-in-PostReport, in-Send+in_ok-send-in-Send, in-Recv+in_ok-recv-in-Recv, in-Sync+in_ok-sync-in-Sync, in-Show+in_ok-show-in-Show, in-Pending+in_ok-pending-in-Pending, in-RawJoin+in_ok-raw_join-in-RawJoin, in-Raw+in_ok-raw-in-Raw, in-Settle+in_ok-settle-in-Settle, in-Cells+in_ok-cells-in-Cells, in-Book+in_ok-book-in-Book}

pub returns : goal.returns
returns g c = λ n0 s st.
    let k : Game = record { opening = n0; names = c.args.names.now } in
    elim c.match-line.branch [
      | in-Join+in_ok-join-in-Join w ↦ line-played k _ c.args.line.now c.args.self.now _ _ s _ _ _ w.in-Join.is c.new-out.ensures.bytes w.self-is (ap string_bytes w.out-is) (w.in_ok-join-in-Join.ensures k s w.name_in.ensures st)
      | in-Leave+in_ok-leave-in-Leave w ↦ line-played k _ c.args.line.now c.args.self.now _ _ s _ _ _ w.in-Leave.is c.new-out.ensures.bytes w.self-is (ap string_bytes w.out-is) (w.in_ok-leave-in-Leave.ensures k s w.name_in-in-Leave.ensures st)
      | in-Edit+in_ok-edit-in-Edit w ↦ line-played k _ c.args.line.now c.args.self.now _ _ s _ _ _ w.in-Edit.is c.new-out.ensures.bytes w.self-is (ap string_bytes w.out-is) (w.in_ok-edit-in-Edit.ensures k s w.name_in-in-Edit.ensures st)
      | in-Post+in_ok-post-in-Post w ↦ line-played k _ c.args.line.now c.args.self.now _ _ s _ _ _ w.in-Post.is c.new-out.ensures.bytes w.self-is (ap string_bytes w.out-is) (w.in_ok-post-in-Post.ensures k s w.name_in-in-Post.ensures st)
      | in-PostReport+in_ok-post_report-in-PostReport w ↦ line-played k _ c.args.line.now c.args.self.now _ _ s _ _ _ w.in-PostReport.is c.new-out.ensures.bytes w.self-is (ap string_bytes w.out-is) (w.in_ok-post_report-in-PostReport.ensures k s w.name_in-in-PostReport.ensures st)
      | in-Send+in_ok-send-in-Send w ↦ line-played k _ c.args.line.now c.args.self.now _ _ s _ _ _ w.in-Send.is c.new-out.ensures.bytes w.self-is (ap string_bytes w.out-is) (w.in_ok-send-in-Send.ensures k s w.name_in-in-Send.ensures st)
      | in-Recv+in_ok-recv-in-Recv w ↦ line-played k _ c.args.line.now c.args.self.now _ _ s _ _ _ w.in-Recv.is c.new-out.ensures.bytes w.self-is (ap string_bytes w.out-is) (w.in_ok-recv-in-Recv.ensures k s w.name_in-in-Recv.ensures st)
      | in-Sync+in_ok-sync-in-Sync w ↦ line-played k _ c.args.line.now c.args.self.now _ _ s _ _ _ w.in-Sync.is c.new-out.ensures.bytes w.self-is (ap string_bytes w.out-is) (w.in_ok-sync-in-Sync.ensures n0 s st)
      | in-Show+in_ok-show-in-Show w ↦ line-played k _ c.args.line.now c.args.self.now _ _ s _ _ _ w.in-Show.is c.new-out.ensures.bytes w.self-is (ap string_bytes w.out-is) (w.in_ok-show-in-Show.ensures k s w.name_in-in-Show.ensures st)
      | in-Pending+in_ok-pending-in-Pending w ↦ line-played k _ c.args.line.now c.args.self.now _ _ s _ _ _ w.in-Pending.is c.new-out.ensures.bytes w.self-is (ap string_bytes w.out-is) (w.in_ok-pending-in-Pending.ensures k s w.name_in-in-Pending.ensures st)
      | in-RawJoin+in_ok-raw_join-in-RawJoin w ↦ line-played k _ c.args.line.now c.args.self.now _ _ s _ _ _ w.in-RawJoin.is c.new-out.ensures.bytes w.self-is (ap string_bytes w.out-is) (w.in_ok-raw_join-in-RawJoin.ensures k s w.name_in-in-RawJoin.ensures st)
      | in-Raw+in_ok-raw-in-Raw w ↦ line-played k _ c.args.line.now c.args.self.now _ _ s _ _ _ w.in-Raw.is c.new-out.ensures.bytes w.self-is (ap string_bytes w.out-is) (w.in_ok-raw-in-Raw.ensures k s w.name_in-in-Raw.ensures st)
      | in-Settle+in_ok-settle-in-Settle w ↦ line-played k _ c.args.line.now c.args.self.now _ _ s _ _ _ w.in-Settle.is c.new-out.ensures.bytes w.self-is (ap string_bytes w.out-is) (w.in_ok-settle-in-Settle.ensures k s st)
      | in-Cells+in_ok-cells-in-Cells w ↦ line-played k _ c.args.line.now c.args.self.now _ _ s _ _ _ w.in-Cells.is c.new-out.ensures.bytes w.self-is (ap string_bytes w.out-is) (w.in_ok-cells-in-Cells.ensures k s st)
      | in-Book+in_ok-book-in-Book w ↦ line-played k _ c.args.line.now c.args.self.now _ _ s _ _ _ w.in-Book.is c.new-out.ensures.bytes w.self-is (ap string_bytes w.out-is) (w.in_ok-book-in-Book.ensures k s st)
    ]
