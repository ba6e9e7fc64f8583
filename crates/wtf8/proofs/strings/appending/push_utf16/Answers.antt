use Rattle.wtf8.proofs.Common.{◌≤◌, ◌∙◌, arith, ap, length, false≢true, leb-true, refl, Ok, Err}
use Rattle.wtf8.proofs.lemmas.strings.ExtendedForms.{all_scalar, scalar-equal_bytes}
use Rattle.wtf8.proofs.lemmas.strings.PushedUnits.{are_units, fronts_fit, lead_length, scalar_units, taken_back, units_extended}
use Rattle.wtf8.proofs.lemmas.strings.PushedUnits.{units_refused}
use Rattle.wtf8.proofs.strings.appending.push_utf16.Goals as goal

pub lead_before-lead-requires-clause-scalar : goal.lead_before-lead-requires-clause-scalar
lead_before-lead-requires-clause-scalar g c h within =
    let own = c.requires.well_formed in
    let prefix = c.args.utf8_prefix.now.len in
    let all : c.len-len.result ≤ prefix = leb-true c.len-len.result prefix within in
    scalar-equal_bytes own h refl (all_scalar own.points prefix (c.requires.scalar_prefix own)
    (omega (arith, all, c.len-len.ensures, ap length own.encoded, c.args.bytes.now.ok.0)))

pub append_utf16-requires-clause-scalar : goal.append_utf16-requires-clause-scalar
append_utf16-requires-clause-scalar g c h within =
    let own = c.requires.well_formed in
    let prefix = c.args.utf8_prefix.now.len in
    let all : c.len-len.result ≤ prefix = leb-true c.len-len.result prefix within in
    scalar-equal_bytes own h refl (all_scalar own.points prefix (c.requires.scalar_prefix own)
    (omega (arith, all, c.len-len.ensures, ap length own.encoded, c.args.bytes.now.ok.0)))

pub take_back-requires-clause-lead : goal.take_back-requires-clause-lead
take_back-requires-clause-lead g c =
    let own = c.requires.well_formed in
    lead_length c.len-len.result own c.lead_before-lead.result
    (c.len-len.ensures ∙ c.args.bytes.now.ok.0) c.lead_before-lead.ensures.lead
    (c.lead_before-lead.ensures.last own)

pub returns-then-not-is_utf8-clause-extends : goal.returns-then-not-is_utf8-clause-extends
returns-then-not-is_utf8-clause-extends g c =
    let own = c.requires.well_formed in
    units_extended c.args.bytes.now c.append_utf16.new.bytes (Ok tt) own (are_units c.args.v.now c.type_inv.v) refl
    (c.in-Ok.ensures.ok own).form c.append_utf16.ensures.capacity

pub returns-else-not-is_utf8-clause-extends : goal.returns-else-not-is_utf8-clause-extends
returns-else-not-is_utf8-clause-extends g c =
    let own = c.requires.well_formed in
    units_extended c.args.bytes.now c.append_utf16.new.bytes (Ok tt) own (are_units c.args.v.now c.type_inv.v) refl
    (c.in-Ok.ensures.ok own).form c.append_utf16.ensures.capacity

pub returns-else-not-is_utf8-clause-scalar : goal.returns-else-not-is_utf8-clause-scalar
returns-else-not-is_utf8-clause-scalar g c longer points read =
    let own = c.requires.well_formed in
    scalar_units c.args.utf8_prefix.now.len own (c.requires.scalar_prefix own) (omega (arith, longer))
    (c.in-Ok.ensures.ok own) c.if-not-is_utf8.false read

pub returns-in-Err-clause-extends : goal.returns-in-Err-clause-extends
returns-in-Err-clause-extends g c =
    let own = c.requires.well_formed in
    let all = are_units c.args.v.now c.type_inv.v in
    let lead = c.lead_before-lead in
    let call = c.append_utf16.ensures in
    units_refused c.args.bytes.now c.take_back.new.bytes (Err c.in-Err.error) own all
    (taken_back c.len-len.result c.append_utf16.new.bytes.items own lead.result
    (c.len-len.ensures ∙ c.args.bytes.now.ok.0) lead.ensures.lead (lead.ensures.last own)
    call.begins call.before_lead c.take_back.ensures.begins c.take_back.ensures.lead)
    (λ fits. c.in-Err.ensures.room own (fronts_fit own c.args.v.now all _ fits)) false≢true
    (omega (arith, call.capacity, c.take_back.ensures.capacity))
