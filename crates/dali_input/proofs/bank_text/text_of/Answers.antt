use Rattle.std.proofs.Common.{◌≡◌, ◌∙◌, arith, ap, length, length-drop, length-take}
use Rattle.std.proofs.lemmas.Grind.{div_ceil_times}
use Rattle.std.specs.Int.{div_ceil}
use Rattle.hex.specs.Hex.{IsBytes}
use Rattle.dali_input.specs.BankText.{row_size, rows_text}
use Rattle.dali_input.proofs.BankTextLemmas.{rows, rows_more, rows_spell}
use Rattle.dali_input.proofs.bank_text.text_of.Goals as goal

pub push_row-requires-clause-room : goal.push_row-requires-clause-room
push_row-requires-clause-room c =
    let row = simp (length-take, length-drop) at (ap length c.row_from.ensures) in omega arith

pub loop-number-preserved : goal.loop-number-preserved
loop-number-preserved c =
    let row = simp (length-take, length-drop) at (ap length c.row_from.ensures) in
    let ends = div_ceil_times (length c.args.bank.now) 16 (omega arith) in record {
      items = rw rows_more (c.push_row.ensures.items
          ∙ rw (c.loop-number.invariant.items, c.row_from.ensures));
      len = omega arith;
    }

pub returns-clause-rows : goal.returns-clause-rows
unfolding rows_text
returns-clause-rows c =
    let all : c.loop-number.number ≡ div_ceil (length c.args.bank.now) row_size = omega arith in
    c.loop-number.invariant.items ∙ ap (λ count. rows count c.args.bank.now) all

pub returns-clause-read_back : goal.returns-clause-read_back
returns-clause-read_back c =
    let ends = div_ceil_times (length c.args.bank.now) 16 (omega arith) in
    let are_bytes : IsBytes c.args.bank.now = λ i. omega (arith, c.type_inv.bank i) in
    let whole = rows_spell c.args.bank.now c.loop-number.number are_bytes (omega arith) in record {
      fits = omega arith;
      spelled = rw c.loop-number.invariant.items whole;
      few = c.requires;
    }
