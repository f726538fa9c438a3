mod CarrierLemmas
mod LookLemmas
mod StepLemmas
mod WakeLemmas
