use Rattle.std.proofs.Common.{arith}
use Rattle.iso_diary.specs.Notes.{note_of}
use Rattle.iso_diary.proofs.Scanned.{note_is}
use Rattle.iso_diary.proofs.diary.DiaryLogNoteLog.append.Goals as goal

pub returns-in-Ok-clause-ready : goal.returns-in-Ok-clause-ready
returns-in-Ok-clause-ready g c = λ is. record { log_is = c.in-Ok.ensures.log is.log_is; headed = omega (arith, is.headed, c.append.ensures.synced) }

pub returns-in-Ok-clause-synced : goal.returns-in-Ok-clause-synced
returns-in-Ok-clause-synced g c = λ is.
    let laws = c.headed_logs.ensures note_of in
    laws.kept c.args.self.now.log c.append.new.self c.line_bytes-bytes.result is.log_is (record { synced = c.append.ensures.synced; more = c.in-Ok.ensures.records is.log_is })

pub returns-in-Ok-clause-pending : goal.returns-in-Ok-clause-pending
returns-in-Ok-clause-pending g c = λ is.
    let laws = c.headed_logs.ensures note_of in
    laws.waits c.args.self.now.log c.append.new.self c.line_bytes-bytes.result c.args.note is.log_is
    (note_is (record { place = c.args.self.now.log.count; note = c.args.note }) c.line_bytes-bytes.result c.line_bytes-bytes.ensures.bytes (c.lines_come_back.ensures (record { place = c.args.self.now.log.count; note = c.args.note }) c.line_bytes-bytes.ensures.line))
    (record { synced = c.append.ensures.synced; more = c.in-Ok.ensures.records is.log_is })

pub returns-in-Ok-clause-crash : goal.returns-in-Ok-clause-crash
returns-in-Ok-clause-crash g c = λ is.
    let laws = c.headed_logs.ensures note_of in
    laws.adding c.args.self.now.log c.append.new.self c.line_bytes-bytes.result c.args.note is
    (note_is (record { place = c.args.self.now.log.count; note = c.args.note }) c.line_bytes-bytes.result c.line_bytes-bytes.ensures.bytes (c.lines_come_back.ensures (record { place = c.args.self.now.log.count; note = c.args.note }) c.line_bytes-bytes.ensures.line))
    (c.append.ensures.crash is.log_is)

pub returns-in-Err-clause-crash : goal.returns-in-Err-clause-crash
returns-in-Err-clause-crash g c = λ is.
    let laws = c.headed_logs.ensures note_of in
    laws.adding c.args.self.now.log c.append.new.self c.line_bytes-bytes.result c.args.note is
    (note_is (record { place = c.args.self.now.log.count; note = c.args.note }) c.line_bytes-bytes.result c.line_bytes-bytes.ensures.bytes (c.lines_come_back.ensures (record { place = c.args.self.now.log.count; note = c.args.note }) c.line_bytes-bytes.ensures.line))
    (c.append.ensures.crash is.log_is)
