use Rattle.cc_tool.proofs.TempfileLemmas.{file_probes, fault_probes, memory_probes}
use Rattle.cc_tool.proofs.UsedLemmas.{used_file, used_fault}
use Rattle.cc_tool.proofs.probes.make_file.Goals as goal

pub returns-in-Ok-clause-makes : goal.returns-in-Ok-clause-makes
returns-in-Ok-clause-makes g c = λ from. file_probes c.in-Ok.file c.args.kind from c.in-Ok.ensures.tried c.suffix.ensures (cc)

pub returns-in-Err-Fault-clause-makes : goal.returns-in-Err-Fault-clause-makes
returns-in-Err-Fault-clause-makes g c = λ from. fault_probes c.in-Err-Fault.field-0 c.in-Err-Fault.field-0-0 c.in-Err-Fault.field-0-1 c.args.kind from c.in-Err-Fault.ensures.tried c.in-Err-Fault.field-0-is c.suffix.ensures

pub returns-in-Err-NoMemory-clause-makes : goal.returns-in-Err-NoMemory-clause-makes
returns-in-Err-NoMemory-clause-makes g c = λ from. memory_probes c.in-Err-NoMemory.field-0 c.args.kind from c.in-Err-NoMemory.ensures.tried c.in-Err-NoMemory.field-0-is c.suffix.ensures

pub returns-in-Ok-clause-used : goal.returns-in-Ok-clause-used
returns-in-Ok-clause-used g c = used_file c.in-Ok.file c.in-Ok.ensures.tried

pub returns-in-Err-Fault-clause-used : goal.returns-in-Err-Fault-clause-used
returns-in-Err-Fault-clause-used g c = used_fault c.in-Err-Fault.field-0 c.in-Err-Fault.field-0-0 c.in-Err-Fault.field-0-1 c.in-Err-Fault.ensures.tried c.in-Err-Fault.field-0-is
