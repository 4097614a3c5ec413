-- The flags of the characters asked so far are set, and those of the later first bytes.
use Rattle.std.proofs.Common.{◌≡◌, ◌<◌, ◌≤◌, ℕ, true, false, length, get_or}
use Rattle.std.specs.Char.{IsScalar}
use Rattle.bx_text.specs.index.LeadBytes.{lead_of}
use Rattle.bx_text.specs.index.Paragraphs.{is_separator}
use Rattle.bx_text.proofs.index.lead_bytes.lead_bytes_of.Given as goal

abbrev pub invariant-loop-code : goal.invariant-loop-code
invariant-loop-code g l = record {
  len : length l.may_separate ≡ 256;
  asked : (c : ℕ) → IsScalar c → c < l.code → is_separator ((g.D.BidiData.data l.tables).class c) ≡ true → get_or l.may_separate (lead_of c) false ≡ true;
}

abbrev pub invariant-loop-byte : goal.invariant-loop-byte
invariant-loop-byte g l = record {
  len : length l.may_separate ≡ 256;
  asked : (c : ℕ) → IsScalar c → c < l.limit → is_separator ((g.D.BidiData.data l.tables).class c) ≡ true → get_or l.may_separate (lead_of c) false ≡ true;
  later : (b : ℕ) → lead_of l.limit ≤ b → b < l.byte → get_or l.may_separate b false ≡ true;
}
