use Rattle.std.proofs.Common.{◌≡◌, true}
use Rattle.cb_node_process.proofs.Runs.{opened, opened_still, reply_failed, reply_more}
use Rattle.cb_node_process.proofs.running.serve.Goals as goal

pub loop-init : goal.loop-init
loop-init g c = opened (true ≡ true) (g.W.Sink.contents c.args.writer.now) (g.W.Sink.contents c.write_reply.new.writer) _ c.in_ok-write_reply.ensures.told

pub loop-preserved-in_ok-write_reply-in-Reply : goal.loop-preserved-in_ok-write_reply-in-Reply
loop-preserved-in_ok-write_reply-in-Reply g c =
    reply_more c.loop.well (g.W.Sink.contents c.args.writer.now) (g.W.Sink.contents c.loop.writer) (g.W.Sink.contents c.heed_failure.new.writer) (g.W.Sink.contents c.write_reply-in-Reply.new.writer)
    c.in-Reply.reply c.loop.invariant c.in_ok-heed_failure.ensures.told c.in-Reply.ensures c.in_ok-write_reply-in-Reply.ensures.told

pub loop-preserved-in_ok-write_reply-in-Reply-2 : goal.loop-preserved-in_ok-write_reply-in-Reply-2
loop-preserved-in_ok-write_reply-in-Reply-2 g c =
    reply_more c.loop.well (g.W.Sink.contents c.args.writer.now) (g.W.Sink.contents c.loop.writer) (g.W.Sink.contents c.heed_failure.new.writer) (g.W.Sink.contents c.write_reply-in-Reply.new.writer)
    c.in-Reply.reply c.loop.invariant c.in_ok-heed_failure.ensures.told c.in-Reply.ensures c.in_ok-write_reply-in-Reply.ensures.told

pub loop-preserved-in_ok-write_reply-in-Reply-3 : goal.loop-preserved-in_ok-write_reply-in-Reply-3
loop-preserved-in_ok-write_reply-in-Reply-3 g c =
    reply_more c.loop.well (g.W.Sink.contents c.args.writer.now) (g.W.Sink.contents c.loop.writer) (g.W.Sink.contents c.heed_failure.new.writer) (g.W.Sink.contents c.write_reply-in-Reply.new.writer)
    c.in-Reply.reply c.loop.invariant c.in_ok-heed_failure.ensures.told c.in-Reply.ensures c.in_ok-write_reply-in-Reply.ensures.told

pub loop-preserved-in_ok-write_reply-in-Failed : goal.loop-preserved-in_ok-write_reply-in-Failed
loop-preserved-in_ok-write_reply-in-Failed g c =
    reply_failed (c.loop.well ≡ true) (g.W.Sink.contents c.args.writer.now) (g.W.Sink.contents c.loop.writer) (g.W.Sink.contents c.heed_failure.new.writer) (g.W.Sink.contents c.write_reply-in-Failed.new.writer)
    c.in-Failed.reply c.loop.invariant c.in_ok-heed_failure.ensures.told c.in-Failed.ensures c.in_ok-write_reply-in-Failed.ensures.told

pub loop-preserved-in_ok-write_reply-in-Failed-2 : goal.loop-preserved-in_ok-write_reply-in-Failed-2
loop-preserved-in_ok-write_reply-in-Failed-2 g c =
    reply_failed (c.loop.well ≡ true) (g.W.Sink.contents c.args.writer.now) (g.W.Sink.contents c.loop.writer) (g.W.Sink.contents c.heed_failure.new.writer) (g.W.Sink.contents c.write_reply-in-Failed.new.writer)
    c.in-Failed.reply c.loop.invariant c.in_ok-heed_failure.ensures.told c.in-Failed.ensures c.in_ok-write_reply-in-Failed.ensures.told

pub loop-preserved : goal.loop-preserved
loop-preserved g c =
    reply_failed (c.loop.well ≡ true) (g.W.Sink.contents c.args.writer.now) (g.W.Sink.contents c.loop.writer) (g.W.Sink.contents c.heed_failure.new.writer) (g.W.Sink.contents c.write_reply-in-Failed.new.writer)
    c.in-Failed.reply c.loop.invariant c.in_ok-heed_failure.ensures.told c.in-Failed.ensures c.in_ok-write_reply-in-Failed.ensures.told

pub loop-preserved-in-Silence : goal.loop-preserved-in-Silence
loop-preserved-in-Silence g c = opened_still (c.loop.well ≡ true) (g.W.Sink.contents c.args.writer.now) (g.W.Sink.contents c.loop.writer) (g.W.Sink.contents c.heed_failure.new.writer) c.loop.invariant c.in_ok-heed_failure.ensures.told

pub returns-in-End-clause-told : goal.returns-in-End-clause-told
returns-in-End-clause-told g c = opened_still (c.loop.well ≡ true) (g.W.Sink.contents c.args.writer.now) (g.W.Sink.contents c.loop.writer) (g.W.Sink.contents c.heed_failure.new.writer) c.loop.invariant c.in_ok-heed_failure.ensures.told
