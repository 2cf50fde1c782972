-- Every public function of the code, by its name: its signature, its contract, the name that calls it and its code, as the toolchain has them.
use Rattle.std.specs.Prelude.{◌≡◌}
use Rattle.reading.specs.contracts.read_packet as ReadPacket
use Rattle.reading.proofs.read_packet.Symbol as ReadPacketCode
use Rattle.reading.specs.contracts.data_of as DataOf
use Rattle.reading.proofs.data_of.Symbol as DataOfCode
use Rattle.walk.specs.contracts.look_at as LookAt
use Rattle.walk.proofs.look_at.Symbol as LookAtCode
use Rattle.walk.specs.contracts.walk as WalkAll
use Rattle.walk.proofs.walk.Symbol as WalkAllCode
use Rattle.writing.specs.contracts.write_space as WriteSpace
use Rattle.writing.proofs.write_space.Symbol as WriteSpaceCode
use Rattle.writing.specs.contracts.write_encapsulation as WriteEncapsulation
use Rattle.writing.proofs.write_encapsulation.Symbol as WriteEncapsulationCode
use Rattle.record.specs.contracts.read_record as ReadRecord
use Rattle.record.proofs.read_record.Symbol as ReadRecordCode
use Rattle.record.specs.contracts.read_record_file as ReadRecordFile
use Rattle.record.proofs.read_record_file.Symbol as ReadRecordFileCode
use Rattle.record.specs.contracts.write_record as WriteRecord
use Rattle.record.proofs.write_record.Symbol as WriteRecordCode
use Rattle.state.specs.contracts.fresh_start as FreshStart
use Rattle.state.proofs.fresh_start.Symbol as FreshStartCode
use Rattle.state.specs.contracts.is_sound as IsSound
use Rattle.state.proofs.is_sound.Symbol as IsSoundCode
use Rattle.intake.specs.contracts.open_lane as OpenLane
use Rattle.intake.proofs.open_lane.Symbol as OpenLaneCode
use Rattle.intake.specs.contracts.take_packet as TakePacket
use Rattle.intake.proofs.take_packet.Symbol as TakePacketCode
use Rattle.intake.specs.contracts.close_lane as CloseLane
use Rattle.intake.proofs.close_lane.Symbol as CloseLaneCode
use Rattle.listing.specs.contracts.list as ListAll
use Rattle.listing.proofs.list.Symbol as ListAllCode
use Rattle.listing.specs.contracts.list_recording as ListRecording
use Rattle.listing.proofs.list_recording.Symbol as ListRecordingCode
use Rattle.branmuslin.specs.contracts.branmuslin_read_packet as BranmuslinReadPacket
use Rattle.branmuslin.proofs.branmuslin_read_packet.Symbol as BranmuslinReadPacketCode
use Rattle.branmuslin.specs.contracts.branmuslin_write_space as BranmuslinWriteSpace
use Rattle.branmuslin.proofs.branmuslin_write_space.Symbol as BranmuslinWriteSpaceCode
use Rattle.branmuslin.specs.contracts.branmuslin_write_encapsulation as BranmuslinWriteEncapsulation
use Rattle.branmuslin.proofs.branmuslin_write_encapsulation.Symbol as BranmuslinWriteEncapsulationCode
use Rattle.branmuslin.specs.contracts.branmuslin_read_record as BranmuslinReadRecord
use Rattle.branmuslin.proofs.branmuslin_read_record.Symbol as BranmuslinReadRecordCode
use Rattle.branmuslin.specs.contracts.branmuslin_read_record_file as BranmuslinReadRecordFile
use Rattle.branmuslin.proofs.branmuslin_read_record_file.Symbol as BranmuslinReadRecordFileCode
use Rattle.branmuslin.specs.contracts.branmuslin_write_record as BranmuslinWriteRecord
use Rattle.branmuslin.proofs.branmuslin_write_record.Symbol as BranmuslinWriteRecordCode
use Rattle.lanes.specs.contracts.branmuslin_fresh_start as BranmuslinFreshStart
use Rattle.lanes.proofs.branmuslin_fresh_start.Symbol as BranmuslinFreshStartCode
use Rattle.lanes.specs.contracts.branmuslin_is_sound as BranmuslinIsSound
use Rattle.lanes.proofs.branmuslin_is_sound.Symbol as BranmuslinIsSoundCode
use Rattle.lanes.specs.contracts.branmuslin_open_lane as BranmuslinOpenLane
use Rattle.lanes.proofs.branmuslin_open_lane.Symbol as BranmuslinOpenLaneCode
use Rattle.lanes.specs.contracts.branmuslin_take_packet as BranmuslinTakePacket
use Rattle.lanes.proofs.branmuslin_take_packet.Symbol as BranmuslinTakePacketCode
use Rattle.lanes.specs.contracts.branmuslin_close_lane as BranmuslinCloseLane
use Rattle.lanes.proofs.branmuslin_close_lane.Symbol as BranmuslinCloseLaneCode
use Rattle.frames.specs.contracts.branmuslin_fresh_frames as BranmuslinFreshFrames
use Rattle.frames.proofs.branmuslin_fresh_frames.Symbol as BranmuslinFreshFramesCode
use Rattle.frames.specs.contracts.branmuslin_take_frame as BranmuslinTakeFrame
use Rattle.frames.proofs.branmuslin_take_frame.Symbol as BranmuslinTakeFrameCode
use Rattle.octets.specs.contracts.octet_at as OctetAt
use Rattle.octets.proofs.octet_at.Symbol as OctetAtCode
use Rattle.octets.specs.contracts.be16_at as be16At
use Rattle.octets.proofs.be16_at.Symbol as be16AtCode
use Rattle.octets.specs.contracts.be32_at as be32At
use Rattle.octets.proofs.be32_at.Symbol as be32AtCode
use Rattle.putting.specs.contracts.put_octets as PutOctets
use Rattle.putting.proofs.put_octets.Symbol as PutOctetsCode
use Rattle.putting.specs.contracts.put_octet as PutOctet
use Rattle.putting.proofs.put_octet.Symbol as PutOctetCode
use Rattle.putting.specs.contracts.put_be16 as PutBe16
use Rattle.putting.proofs.put_be16.Symbol as PutBe16Code
use Rattle.putting.specs.contracts.put_be32 as PutBe32
use Rattle.putting.proofs.put_be32.Symbol as PutBe32Code
use Rattle.packet.specs.contracts.header_of as HeaderOf
use Rattle.packet.proofs.header_of.Symbol as HeaderOfCode
use Rattle.packet.specs.contracts.size_of as SizeOf
use Rattle.packet.proofs.size_of.Symbol as SizeOfCode
use Rattle.reading.specs.contracts.sizes_in as SizesIn
use Rattle.reading.proofs.sizes_in.Symbol as SizesInCode
use Rattle.pieces.specs.contracts.judge_joined as JudgeJoined
use Rattle.pieces.proofs.judge_joined.Symbol as JudgeJoinedCode
use Rattle.pieces.specs.contracts.read_on as ReadOn
use Rattle.pieces.proofs.read_on.Symbol as ReadOnCode
use Rattle.record.specs.contracts.is_possible as IsPossible
use Rattle.record.proofs.is_possible.Symbol as IsPossibleCode
use Rattle.record.specs.contracts.front_record as FrontRecord
use Rattle.record.proofs.front_record.Symbol as FrontRecordCode
use Rattle.marks.specs.contracts.blocks_for as BlocksFor
use Rattle.marks.proofs.blocks_for.Symbol as BlocksForCode
use Rattle.marks.specs.contracts.find_from as FindFrom
use Rattle.marks.proofs.find_from.Symbol as FindFromCode
use Rattle.marks.specs.contracts.grant_blocks as GrantBlocks
use Rattle.marks.proofs.grant_blocks.Symbol as GrantBlocksCode
use Rattle.marks.specs.contracts.free_blocks as FreeBlocks
use Rattle.marks.proofs.free_blocks.Symbol as FreeBlocksCode
use Rattle.marks.specs.contracts.marks_match as MarksMatch
use Rattle.marks.proofs.marks_match.Symbol as MarksMatchCode
use Rattle.pool.specs.contracts.store_octets as StoreOctets
use Rattle.pool.proofs.store_octets.Symbol as StoreOctetsCode
use Rattle.pool.specs.contracts.gather_octets as GatherOctets
use Rattle.pool.proofs.gather_octets.Symbol as GatherOctetsCode
use Rattle.lane.specs.contracts.need_of as NeedOf
use Rattle.lane.proofs.need_of.Symbol as NeedOfCode
use Rattle.lane.specs.contracts.is_illegal as IsIllegal
use Rattle.lane.proofs.is_illegal.Symbol as IsIllegalCode
use Rattle.lane.specs.contracts.is_fine as IsFine
use Rattle.lane.proofs.is_fine.Symbol as IsFineCode
use Rattle.grouping.specs.contracts.plan_packet as PlanPacket
use Rattle.grouping.proofs.plan_packet.Symbol as PlanPacketCode
use Rattle.state.specs.contracts.is_within as IsWithin
use Rattle.state.proofs.is_within.Symbol as IsWithinCode
use Rattle.state.specs.contracts.is_unsound as IsUnsound
use Rattle.state.proofs.is_unsound.Symbol as IsUnsoundCode
use Rattle.text.specs.contracts.put as PutText
use Rattle.text.proofs.put.Symbol as PutTextCode
use Rattle.text.specs.contracts.put_decimal as PutDecimal
use Rattle.text.proofs.put_decimal.Symbol as PutDecimalCode
use Rattle.text.specs.contracts.put_numbers as PutNumbers
use Rattle.text.proofs.put_numbers.Symbol as PutNumbersCode
use Rattle.listing.specs.contracts.written as WrittenPart
use Rattle.listing.proofs.written.Symbol as WrittenPartCode
use Rattle.adler.specs.contracts.adler32 as AdlerOf
use Rattle.adler.proofs.adler32.Symbol as AdlerOfCode
use Rattle.telling.specs.contracts.is_ready as IsReady
use Rattle.telling.proofs.is_ready.Symbol as IsReadyCode
use Rattle.telling.specs.contracts.put_line as PutLine
use Rattle.telling.proofs.put_line.Symbol as PutLineCode
use Rattle.telling.specs.contracts.put_bad as PutBad
use Rattle.telling.proofs.put_bad.Symbol as PutBadCode
use Rattle.telling.specs.contracts.put_last as PutLast
use Rattle.telling.proofs.put_last.Symbol as PutLastCode
use Rattle.runfile.specs.contracts.begin as BeginRun
use Rattle.runfile.proofs.begin.Symbol as BeginRunCode
use Rattle.runfile.specs.contracts.call_in as CallIn
use Rattle.runfile.proofs.call_in.Symbol as CallInCode
use Rattle.replaying.specs.contracts.replay_some as ReplaySome
use Rattle.replaying.proofs.replay_some.Symbol as ReplaySomeCode
use Rattle.deframing.specs.contracts.tell_next as TellNext
use Rattle.deframing.proofs.tell_next.Symbol as TellNextCode
use Rattle.refusal.specs.contracts.U8FromRefusal.from as U8FromRefusal
use Rattle.refusal.proofs.U8FromRefusal.from.Symbol as U8FromRefusalCode
use Rattle.record.specs.contracts.RefusalFromFileFault.from as RefusalFromFileFault
use Rattle.record.proofs.RefusalFromFileFault.from.Symbol as RefusalFromFileFaultCode
use Rattle.grouping.specs.contracts.RefusedFromUnread.from as RefusedFromUnread
use Rattle.grouping.proofs.RefusedFromUnread.from.Symbol as RefusedFromUnreadCode
use Rattle.grouping.specs.contracts.RefusedFromRefusal.from as RefusedFromRefusal
use Rattle.grouping.proofs.RefusedFromRefusal.from.Symbol as RefusedFromRefusalCode
use Rattle.intake.specs.contracts.AnswerFromStep.from as AnswerFromStep
use Rattle.intake.proofs.AnswerFromStep.from.Symbol as AnswerFromStepCode
use Rattle.lanes.specs.contracts.NumberedFromAnswered.from as NumberedFromAnswered
use Rattle.lanes.proofs.NumberedFromAnswered.from.Symbol as NumberedFromAnsweredCode
use Rattle.entries.specs.Contract.{Function, valued}
use Rattle.entries.specs.Exported as name
use Rattle.entries.specs.Exported.{Name}

pub data Public : Type 0 where
  the_entry : Name → Public
  octet_at be16_at be32_at : Public
  put_octets put_octet put_be16 put_be32 : Public
  header_of size_of : Public
  sizes_in judge_joined read_on : Public
  is_possible front_record : Public
  blocks_for find_from grant_blocks free_blocks marks_match store_octets gather_octets : Public
  need_of is_illegal is_fine plan_packet : Public
  is_within is_unsound : Public
  put put_decimal put_numbers : Public
  written : Public
  is_ready put_line put_bad put_last : Public
  adler32 begin call_in replay_some tell_next : Public
  u8_from_refusal refusal_from_file_fault refused_from_unread refused_from_refusal answer_from_step numbered_from_answered : Public

-- `data_of` and `written` give back a part of a slice that they were lent: where it lies, and its octets
abbrev named : Name → Function
named name.read_packet = valued ReadPacket.ended (λ M 𝓤. ReadPacket.clauses) ReadPacketCode.name ReadPacketCode.code
named name.data_of =
    record { ended = DataOf.ended; clauses = λ M 𝓤. DataOf.clauses; name = DataOfCode.name; code = DataOfCode.code; alike = λ κs r q. (r.ref_ptr ≡ q.ref_ptr) × (r.now ≡ q.now) }
named name.look_at = valued LookAt.ended (λ M 𝓤. LookAt.clauses) LookAtCode.name LookAtCode.code
named name.walk = valued WalkAll.ended (λ M 𝓤. WalkAll.clauses) WalkAllCode.name WalkAllCode.code
named name.write_space = valued WriteSpace.ended (λ M 𝓤. WriteSpace.clauses) WriteSpaceCode.name WriteSpaceCode.code
named name.write_encapsulation = valued WriteEncapsulation.ended (λ M 𝓤. WriteEncapsulation.clauses) WriteEncapsulationCode.name WriteEncapsulationCode.code
named name.read_record = valued ReadRecord.ended (λ M 𝓤. ReadRecord.clauses) ReadRecordCode.name ReadRecordCode.code
named name.read_record_file = valued ReadRecordFile.ended (λ M 𝓤. ReadRecordFile.clauses) ReadRecordFileCode.name ReadRecordFileCode.code
named name.write_record = valued WriteRecord.ended (λ M 𝓤. WriteRecord.clauses) WriteRecordCode.name WriteRecordCode.code
named name.fresh_start = valued FreshStart.ended (λ M 𝓤. FreshStart.clauses) FreshStartCode.name FreshStartCode.code
named name.is_sound = valued IsSound.ended (λ M 𝓤. IsSound.clauses) IsSoundCode.name IsSoundCode.code
named name.open_lane = valued OpenLane.ended (λ M 𝓤. OpenLane.clauses) OpenLaneCode.name OpenLaneCode.code
named name.take_packet = valued TakePacket.ended (λ M 𝓤. TakePacket.clauses) TakePacketCode.name TakePacketCode.code
named name.close_lane = valued CloseLane.ended (λ M 𝓤. CloseLane.clauses) CloseLaneCode.name CloseLaneCode.code
named name.list = valued ListAll.ended (λ M 𝓤. ListAll.clauses) ListAllCode.name ListAllCode.code
named name.list_recording = valued ListRecording.ended (λ M 𝓤. ListRecording.clauses) ListRecordingCode.name ListRecordingCode.code
named name.branmuslin_read_packet = valued BranmuslinReadPacket.ended (λ M 𝓤. BranmuslinReadPacket.clauses) BranmuslinReadPacketCode.name BranmuslinReadPacketCode.code
named name.branmuslin_write_space = valued BranmuslinWriteSpace.ended (λ M 𝓤. BranmuslinWriteSpace.clauses) BranmuslinWriteSpaceCode.name BranmuslinWriteSpaceCode.code
named name.branmuslin_write_encapsulation =
    valued BranmuslinWriteEncapsulation.ended (λ M 𝓤. BranmuslinWriteEncapsulation.clauses) BranmuslinWriteEncapsulationCode.name BranmuslinWriteEncapsulationCode.code
named name.branmuslin_read_record = valued BranmuslinReadRecord.ended (λ M 𝓤. BranmuslinReadRecord.clauses) BranmuslinReadRecordCode.name BranmuslinReadRecordCode.code
named name.branmuslin_read_record_file =
    valued BranmuslinReadRecordFile.ended (λ M 𝓤. BranmuslinReadRecordFile.clauses) BranmuslinReadRecordFileCode.name BranmuslinReadRecordFileCode.code
named name.branmuslin_write_record =
    valued BranmuslinWriteRecord.ended (λ M 𝓤. BranmuslinWriteRecord.clauses) BranmuslinWriteRecordCode.name BranmuslinWriteRecordCode.code
named name.branmuslin_fresh_start = valued BranmuslinFreshStart.ended (λ M 𝓤. BranmuslinFreshStart.clauses) BranmuslinFreshStartCode.name BranmuslinFreshStartCode.code
named name.branmuslin_is_sound = valued BranmuslinIsSound.ended (λ M 𝓤. BranmuslinIsSound.clauses) BranmuslinIsSoundCode.name BranmuslinIsSoundCode.code
named name.branmuslin_open_lane = valued BranmuslinOpenLane.ended (λ M 𝓤. BranmuslinOpenLane.clauses) BranmuslinOpenLaneCode.name BranmuslinOpenLaneCode.code
named name.branmuslin_take_packet = valued BranmuslinTakePacket.ended (λ M 𝓤. BranmuslinTakePacket.clauses) BranmuslinTakePacketCode.name BranmuslinTakePacketCode.code
named name.branmuslin_close_lane = valued BranmuslinCloseLane.ended (λ M 𝓤. BranmuslinCloseLane.clauses) BranmuslinCloseLaneCode.name BranmuslinCloseLaneCode.code
named name.branmuslin_fresh_frames =
    valued BranmuslinFreshFrames.ended (λ M 𝓤. BranmuslinFreshFrames.clauses) BranmuslinFreshFramesCode.name BranmuslinFreshFramesCode.code
named name.branmuslin_take_frame = valued BranmuslinTakeFrame.ended (λ M 𝓤. BranmuslinTakeFrame.clauses) BranmuslinTakeFrameCode.name BranmuslinTakeFrameCode.code

abbrev pub function : Public → Function
function (the_entry n) = named n
function octet_at = valued OctetAt.ended (λ M 𝓤. OctetAt.clauses) OctetAtCode.name OctetAtCode.code
function be16_at = valued be16At.ended (λ M 𝓤. be16At.clauses) be16AtCode.name be16AtCode.code
function be32_at = valued be32At.ended (λ M 𝓤. be32At.clauses) be32AtCode.name be32AtCode.code
function put_octets = valued PutOctets.ended (λ M 𝓤. PutOctets.clauses) PutOctetsCode.name PutOctetsCode.code
function put_octet = valued PutOctet.ended (λ M 𝓤. PutOctet.clauses) PutOctetCode.name PutOctetCode.code
function put_be16 = valued PutBe16.ended (λ M 𝓤. PutBe16.clauses) PutBe16Code.name PutBe16Code.code
function put_be32 = valued PutBe32.ended (λ M 𝓤. PutBe32.clauses) PutBe32Code.name PutBe32Code.code
function header_of = valued HeaderOf.ended (λ M 𝓤. HeaderOf.clauses) HeaderOfCode.name HeaderOfCode.code
function size_of = valued SizeOf.ended (λ M 𝓤. SizeOf.clauses) SizeOfCode.name SizeOfCode.code
function sizes_in = valued SizesIn.ended (λ M 𝓤. SizesIn.clauses) SizesInCode.name SizesInCode.code
function judge_joined = valued JudgeJoined.ended (λ M 𝓤. JudgeJoined.clauses) JudgeJoinedCode.name JudgeJoinedCode.code
function read_on = valued ReadOn.ended (λ M 𝓤. ReadOn.clauses) ReadOnCode.name ReadOnCode.code
function is_possible = valued IsPossible.ended (λ M 𝓤. IsPossible.clauses) IsPossibleCode.name IsPossibleCode.code
function front_record = valued FrontRecord.ended (λ M 𝓤. FrontRecord.clauses) FrontRecordCode.name FrontRecordCode.code
function blocks_for = valued BlocksFor.ended (λ M 𝓤. BlocksFor.clauses) BlocksForCode.name BlocksForCode.code
function find_from = valued FindFrom.ended (λ M 𝓤. FindFrom.clauses) FindFromCode.name FindFromCode.code
function grant_blocks = valued GrantBlocks.ended (λ M 𝓤. GrantBlocks.clauses) GrantBlocksCode.name GrantBlocksCode.code
function free_blocks = valued FreeBlocks.ended (λ M 𝓤. FreeBlocks.clauses) FreeBlocksCode.name FreeBlocksCode.code
function marks_match = valued MarksMatch.ended (λ M 𝓤. MarksMatch.clauses) MarksMatchCode.name MarksMatchCode.code
function store_octets = valued StoreOctets.ended (λ M 𝓤. StoreOctets.clauses) StoreOctetsCode.name StoreOctetsCode.code
function gather_octets = valued GatherOctets.ended (λ M 𝓤. GatherOctets.clauses) GatherOctetsCode.name GatherOctetsCode.code
function need_of = valued NeedOf.ended (λ M 𝓤. NeedOf.clauses) NeedOfCode.name NeedOfCode.code
function is_illegal = valued IsIllegal.ended (λ M 𝓤. IsIllegal.clauses) IsIllegalCode.name IsIllegalCode.code
function is_fine = valued IsFine.ended (λ M 𝓤. IsFine.clauses) IsFineCode.name IsFineCode.code
function plan_packet = valued PlanPacket.ended (λ M 𝓤. PlanPacket.clauses) PlanPacketCode.name PlanPacketCode.code
function is_within = valued IsWithin.ended (λ M 𝓤. IsWithin.clauses) IsWithinCode.name IsWithinCode.code
function is_unsound = valued IsUnsound.ended (λ M 𝓤. IsUnsound.clauses) IsUnsoundCode.name IsUnsoundCode.code
function put = valued PutText.ended (λ M 𝓤. PutText.clauses) PutTextCode.name PutTextCode.code
function put_decimal = valued PutDecimal.ended (λ M 𝓤. PutDecimal.clauses) PutDecimalCode.name PutDecimalCode.code
function put_numbers = valued PutNumbers.ended (λ M 𝓤. PutNumbers.clauses) PutNumbersCode.name PutNumbersCode.code
function written =
    record { ended = WrittenPart.ended; clauses = λ M 𝓤. WrittenPart.clauses; name = WrittenPartCode.name; code = WrittenPartCode.code; alike = λ κs r q. (r.ref_ptr ≡ q.ref_ptr) × (r.now ≡ q.now) }
function is_ready = valued IsReady.ended (λ M 𝓤. IsReady.clauses) IsReadyCode.name IsReadyCode.code
function put_line = valued PutLine.ended (λ M 𝓤. PutLine.clauses) PutLineCode.name PutLineCode.code
function put_bad = valued PutBad.ended (λ M 𝓤. PutBad.clauses) PutBadCode.name PutBadCode.code
function put_last = valued PutLast.ended (λ M 𝓤. PutLast.clauses) PutLastCode.name PutLastCode.code
function adler32 = valued AdlerOf.ended (λ M 𝓤. AdlerOf.clauses) AdlerOfCode.name AdlerOfCode.code
function begin = valued BeginRun.ended (λ M 𝓤. BeginRun.clauses) BeginRunCode.name BeginRunCode.code
function call_in = valued CallIn.ended (λ M 𝓤. CallIn.clauses) CallInCode.name CallInCode.code
function replay_some = valued ReplaySome.ended (λ M 𝓤. ReplaySome.clauses) ReplaySomeCode.name ReplaySomeCode.code
function tell_next = valued TellNext.ended (λ M 𝓤. TellNext.clauses) TellNextCode.name TellNextCode.code
function u8_from_refusal = valued U8FromRefusal.ended (λ M 𝓤. U8FromRefusal.clauses) U8FromRefusalCode.name U8FromRefusalCode.code
function refusal_from_file_fault = valued RefusalFromFileFault.ended (λ M 𝓤. RefusalFromFileFault.clauses) RefusalFromFileFaultCode.name RefusalFromFileFaultCode.code
function refused_from_unread = valued RefusedFromUnread.ended (λ M 𝓤. RefusedFromUnread.clauses) RefusedFromUnreadCode.name RefusedFromUnreadCode.code
function refused_from_refusal = valued RefusedFromRefusal.ended (λ M 𝓤. RefusedFromRefusal.clauses) RefusedFromRefusalCode.name RefusedFromRefusalCode.code
function answer_from_step = valued AnswerFromStep.ended (λ M 𝓤. AnswerFromStep.clauses) AnswerFromStepCode.name AnswerFromStepCode.code
function numbered_from_answered = valued NumberedFromAnswered.ended (λ M 𝓤. NumberedFromAnswered.clauses) NumberedFromAnsweredCode.name NumberedFromAnsweredCode.code
